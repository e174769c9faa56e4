use Rattle.std.proofs.Common.{◌≡◌, length}
use Rattle.shape_extents.specs.Extents.{around_all}
use Rattle.shape_extents.proofs.extents.around_all.Given as goal

-- round what is round those before and those that are left is what is round all
abbrev pub invariant-loop-shape : goal.invariant-loop-shape
invariant-loop-shape l = around_all l.place l.rest ≡ around_all l.fn.first l.fn.shapes

abbrev pub decreases-loop-shape : goal.decreases-loop-shape
decreases-loop-shape l = length l.rest
