use Rattle.std.specs.List.{AllByRecursion}
use Rattle.region_cut.specs.Strokes.{IsCornerInReach}
use Rattle.region_tests.proofs.spiral_tests.middle.Given as goal

abbrev pub invariant-loop-round : goal.invariant-loop-round
invariant-loop-round l = AllByRecursion IsCornerInReach l.path.items
