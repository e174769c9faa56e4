use Rattle.std.proofs.Common.{length}
use Rattle.std.specs.List.{AllByRecursion}
use Rattle.region_cut.specs.Strokes.{IsCornerInReach}
use Rattle.region_tests.proofs.row_tests.corners.Given as goal

abbrev pub invariant-loop-x : goal.invariant-loop-x
invariant-loop-x l = AllByRecursion IsCornerInReach l.path.items

abbrev pub decreases-loop-x : goal.decreases-loop-x
decreases-loop-x l = length l.rest
