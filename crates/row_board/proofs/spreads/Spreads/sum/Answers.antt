use Rattle.std.proofs.Common.{◌≤◌, ◌*◌, ap, sym, ◌∙◌, arith, length, map, subst, sum}
use Rattle.std.proofs.lemmas.List.{length-map}
use Rattle.row_board.specs.Cost.{spread}
use Rattle.row_board.specs.Extremes.{part_of}
use Rattle.row_board.specs.Spreads.{NumberLists}
use Rattle.row_board.proofs.SpreadLaws.{spreads-are, widths-small}
use Rattle.row_board.proofs.spreads.Spreads.sum.Goals as goal

pub returns-clause-is : goal.returns-clause-is
returns-clause-is c =
    let i = c.self.inside in
    c.self.invariant.sum ∙ sym (ap sum (spreads-are i.numbers.items i.lists.items c.self.invariant.each)) ∙ ap (λ (v : NumberLists). sum (map spread v.lists)) c.self.view_is

pub returns-clause-small : goal.returns-clause-small
returns-clause-small c =
    let i = c.self.inside in
    subst (λ (v : NumberLists). i.sum ≤ v.most * length v.lists) c.self.view_is
    (omega (
      arith,
      widths-small i.most i.numbers.items i.lists.items c.self.invariant.small c.self.invariant.each,
      c.self.invariant.sum,
      ap (λ n. i.most * n) (length-map i.lists.items (part_of i.numbers.items)),
    ))
