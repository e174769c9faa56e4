use Rattle.row_board.proofs.row_lengths.RowLengths.change.Goals as goal
use Rattle.std.proofs.Common.{◌≡◌, ◌+◌, ◌-◌, ◌≤◌, ℕ, List, cond, length, map, set, ap, sym, ◌∙◌, arith}
use Rattle.std.proofs.lemmas.Grind.{common_steps}
use Rattle.std.proofs.lemmas.List.{length-set, map-set}
use Rattle.std.proofs.lemmas.Option.{get_or_from_slice_get}
use Rattle.std.specs.List.{slice_get}
use Rattle.std.specs.Option.{option_map}
use Rattle.std.specs.Prelude.{nat_eq}
use Rattle.row_board.specs.Cost.{difference}
use Rattle.row_board.specs.RowLengths.{Lengths}
use Rattle.row_board.proofs.SumLaws.{here-changed, there-same}
use Rattle.std_laws.proofs.Places.{changed-at, unchanged-past}

pub invariant_of-self : goal.invariant_of-self
invariant_of-self c = record {
  misses = c.set.ensures
      ∙ ap (λ (l : List ℕ). set l c.args.row c.difference-number.result) c.self.invariant.misses
      ∙ ap (λ (n : ℕ). set (map (λ (width : ℕ). difference width c.self.inside.target) c.self.inside.widths.items) c.args.row n) c.difference-number.ensures
      ∙ sym (map-set (λ (width : ℕ). difference width c.self.inside.target) c.self.inside.widths.items c.args.row c.saturating_sub-width.result);
  low = c.self.invariant.low;
  few = omega (arith, c.self.invariant.few, length-set c.self.inside.widths.items c.args.row c.saturating_sub-width.result);
}

pub returns-then-n-len-clause-widths : goal.returns-then-n-len-clause-widths
returns-then-n-len-clause-widths c = λ r.
    changed-at (λ (i width : ℕ). cond (nat_eq i c.args.row) (width + c.args.more - c.args.fewer) width) c.self.inside.widths.items c.args.row c.saturating_sub-width.result
    (λ x at. here-changed c.args.row c.args.more c.args.fewer x c.saturating_sub-width.result c.index.result.now c.from.result c.from-then-n-len.result
    (c.index.ensures ∙ get_or_from_slice_get c.self.inside.widths.items c.args.row x c.index.result.now at) c.from.ensures c.from-then-n-len.ensures c.saturating_sub-width.ensures)
    (there-same c.args.row c.args.more c.args.fewer) r
    ∙ ap (λ (l : List ℕ). option_map (λ (width : ℕ). cond (nat_eq r c.args.row) (width + c.args.more - c.args.fewer) width) (slice_get l r)) (ap (λ (l : Lengths). l.widths) c.self.view_is)

pub returns-else-n-len-clause-widths : goal.returns-else-n-len-clause-widths
returns-else-n-len-clause-widths c = λ r.
    let same : c.self.inside.widths.items ≡ c.args.self.now.widths = ap (λ (l : Lengths). l.widths) c.self.view_is in
    let past : length c.self.inside.widths.items ≤ c.args.row = grind (arith, common_steps) in
    unchanged-past (λ (i width : ℕ). cond (nat_eq i c.args.row) (width + c.args.more - c.args.fewer) width) c.args.self.now.widths c.args.row
    (omega (arith, past, ap length same)) (there-same c.args.row c.args.more c.args.fewer) r
