use Rattle.std.proofs.Common.{◌≤◌, ◌+◌, ◌++◌, ◌∷◌, [], ℕ, List, length, map, refl, ap, ap₂, sym, ◌∙◌, arith, subst}
use Rattle.std.proofs.lemmas.List.{length-map}
use Rattle.std.specs.List.{AllByRecursion}
use Rattle.row_board.specs.Extremes.{part_of}
use Rattle.row_board.specs.Spreads.{NumberLists}
use Rattle.row_board.specs.declared.extremes.Extremes.{Extremes}
use Rattle.row_board.proofs.ExtremesLaws.{extremes-spread}
use Rattle.row_board.proofs.SpreadLaws.{lists-more, spread-small, spreads-more, widths-fit}
use Rattle.row_board.proofs.spreads.Spreads.with_list.Goals as goal

pub overflow_add-result : goal.overflow_add-result
overflow_add-result c =
    let i = c.self.inside in
    omega (
      arith,
      widths-fit i.most i.numbers.items i.lists.items c.self.invariant.small c.self.invariant.each c.self.invariant.low c.self.invariant.few,
      c.self.invariant.sum,
      c.distance.ensures,
      extremes-spread c.args.list.now c.of-extremes.result c.of-extremes.ensures.is,
      spread-small c.args.self.most c.args.list.now c.requires.small,
      ap (λ (v : NumberLists). v.most) c.self.view_is,
      c.self.invariant.low,
    )

pub invariant_of-result : goal.invariant_of-result
invariant_of-result c =
    let i = c.self.inside in
    spreads-more i _ c.args.list.now c.of-extremes.result c.self.invariant c.in_ok-extend_from_slice.ensures.items c.in_ok-push.ensures.items refl
    (ap (λ (n : ℕ). i.sum + n) c.distance.ensures) (omega (arith, c.of-extremes.ensures.start, c.len-start.ensures)) c.of-extremes.ensures.is c.requires.short
    (subst (λ (v : NumberLists). AllByRecursion (λ (n : ℕ). n ≤ v.most) c.args.list.now) (sym c.self.view_is) c.requires.small)
    (omega (arith, c.requires.few, ap (λ (v : NumberLists). length v.lists) c.self.view_is, length-map i.lists.items (part_of i.numbers.items)))

pub returns : goal.returns
returns c =
    let i = c.self.inside in
    ap₂ (λ (numbers : List ℕ) (extremes : List Extremes). record { most = i.most; lists = map (part_of numbers) extremes }) c.in_ok-extend_from_slice.ensures.items c.in_ok-push.ensures.items
    ∙ ap (λ (ls : List (List ℕ)). record { most = i.most; lists = ls })
    (lists-more i.numbers.items c.args.list.now i.lists.items c.of-extremes.result c.self.invariant.each (omega (arith, c.of-extremes.ensures.start, c.len-start.ensures)) c.of-extremes.ensures.is)
    ∙ ap (λ (v : NumberLists). record { most = v.most; lists = v.lists ++ c.args.list.now ∷ [] }) c.self.view_is
