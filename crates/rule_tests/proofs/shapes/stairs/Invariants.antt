use Rattle.std.proofs.Common.{◌≡◌, ◌*◌, ◌≤◌, length}
use Rattle.std.specs.Prelude.{All}
use Rattle.geom_core.specs.Reach.{IsShapeInReach}
use Rattle.rule_tests.proofs.shapes.stairs.Given as goal

abbrev pub invariant-loop-k : goal.invariant-loop-k
invariant-loop-k l = record {
  len : length l.squares.items ≡ l._k;
  reach : All IsShapeInReach l.squares.items;
  high : l.at ≤ 1000 * l._k;
}
