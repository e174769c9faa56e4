use Rattle.std.proofs.Common.{◌≡◌, length}
use Rattle.std.specs.Prelude.{All}
use Rattle.geom_core.specs.Reach.{IsShapeInReach}
use Rattle.rule_tests.proofs.shapes.shapes_of.Given as goal

abbrev pub invariant-loop-placed : goal.invariant-loop-placed
invariant-loop-placed l = record {
  len : length l.shapes.items ≡ l.placed-index;
  reach : All IsShapeInReach l.shapes.items;
}
