use Rattle.std.proofs.Common.{◌≡◌, ◌+◌, ◌||◌, ℤ, false, take}
use Rattle.std.specs.List.{list_any}
use Rattle.std.specs.Prelude.{int_le}
use Rattle.region_cut.specs.Grids.{line}
use Rattle.region_cut.proofs.CellLaws.{Changing}
use Rattle.region_cut.proofs.marks.mark_reached.Given as goal

abbrev pub invariant-loop-column : goal.invariant-loop-column
invariant-loop-column l = record {
  reach : (z : ℤ) → int_le z l.end ≡ (int_le z (line l.ends 0) || list_any (int_le z) (take l.column l.ends));
  cells : Changing (λ k b. list_any (int_le (line l.across (k + 1))) (take (k + 1) l.ends)) false l.column l.initial.cells l.cells;
}
