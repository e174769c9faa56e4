use Rattle.std.proofs.Common.{◌≡◌, ◌+◌, ◌≤◌, ◌++◌, ℕ, length, map}
use Rattle.row_model.specs.NearStands.{AreShort}
use Rattle.row_model.specs.Widths.{row_width}
use Rattle.row_board.specs.Cost.{difference}
use Rattle.row_board.proofs.row_lengths.RowLengths.of.Given as goal

abbrev pub invariant-loop-seats : goal.invariant-loop-seats
invariant-loop-seats l = record {
  widths : l.widths.items ++ map (row_width l.design) l.rest ≡ map (row_width l.placed.design) l.placed.rows;
  misses : l.misses ≡ map (λ (width : ℕ). difference width l.target) l.widths.items;
  short : AreShort l.rest;
  few : length l.widths.items + length l.rest ≤ 514;
}

abbrev pub decreases-loop-seats : goal.decreases-loop-seats
decreases-loop-seats l = length l.rest
