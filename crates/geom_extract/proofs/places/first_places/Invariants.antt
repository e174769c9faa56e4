use Rattle.std.proofs.Common.{◌≡◌, ◌+◌, ◌<◌, ◌≤◌, ℕ, drop, length}
use Rattle.std.specs.Prelude.{slice_index}
use Rattle.geom_extract.specs.CellTies.{first_place}
use Rattle.geom_extract.proofs.places.first_places.Given as goal

abbrev pub invariant-loop-place : goal.invariant-loop-place
invariant-loop-place l = record {
  within : l.place ≤ length l.positions;
  long : length l.table.items ≡ length l.kind.terminals;
  each : (t : ℕ) → t < length l.table.items → slice_index l.table.items t ≡ l.place + first_place (drop l.place l.positions) t;
}

abbrev pub decreases-loop-place : goal.decreases-loop-place
decreases-loop-place l = l.place
