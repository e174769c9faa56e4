use Rattle.std.proofs.Common.{◌≡◌, length}
use Rattle.layout_check.specs.CellFaults.{are_shapes}
use Rattle.layout_merge.proofs.cells.are_shapes.Given as goal

abbrev pub invariant-loop-shape : goal.invariant-loop-shape
invariant-loop-shape l = are_shapes l.rest l.left ≡ are_shapes l.fn.shapes l.fn.others

abbrev pub decreases-loop-shape : goal.decreases-loop-shape
decreases-loop-shape l = length l.rest
