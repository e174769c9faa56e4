use Rattle.std.proofs.Common.{◌≡◌, length, map}
use Rattle.std.specs.Prelude.{All}
use Rattle.geom_core.specs.Moving.{moved_shape}
use Rattle.geom_core.specs.Reach.{IsShapeInReach}
use Rattle.layout_check.specs.CellFaults.{are_shapes}
use Rattle.layout_check.proofs.drawings.are_moved.Given as goal

abbrev pub invariant-loop-shape : goal.invariant-loop-shape
invariant-loop-shape l = record {
  same : are_shapes l.shapes (map (moved_shape l.turn) l.drawing) ≡ are_shapes l.rest (map (moved_shape l.turn) l.left);
  reach : All IsShapeInReach l.left;
}

abbrev pub decreases-loop-shape : goal.decreases-loop-shape
decreases-loop-shape l = length l.rest
