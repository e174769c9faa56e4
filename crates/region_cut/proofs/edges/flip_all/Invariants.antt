use Rattle.std.proofs.Common.{◌≡◌, ◌<◌, ◌++◌, ◌∷◌, [], ℕ, false, length}
use Rattle.std.specs.Prelude.{slice_index_or}
use Rattle.region_cut.specs.Cells.{stands_left}
use Rattle.region_cut.specs.Grids.{line}
use Rattle.region_cut.specs.Steps.{closed_steps, steps_from}
use Rattle.region_cut.proofs.CellLaws.{xor, odd}
use Rattle.region_cut.proofs.edges.flip_all.Given as goal

abbrev pub invariant-loop-next : goal.invariant-loop-next
invariant-loop-next l = record {
  long : length l.cells ≡ length l.initial.cells;
  flips : (k : ℕ) → k < length l.initial.cells
      → xor (slice_index_or l.cells k false) (odd (stands_left (line l.across k) l.heights.low l.heights.high) (steps_from l.here (l.rest ++ l.first ∷ [])))
      ≡ xor (slice_index_or l.initial.cells k false) (odd (stands_left (line l.across k) l.heights.low l.heights.high) (closed_steps l.path));
}

abbrev pub decreases-loop-next : goal.decreases-loop-next
decreases-loop-next l = length l.rest
