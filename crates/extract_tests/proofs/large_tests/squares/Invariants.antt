use Rattle.std.proofs.Common.{◌≡◌, ◌*◌, ◌≤◌, length}
use Rattle.std.specs.Prelude.{All}
use Rattle.geom_core.specs.Reach.{IsShapeInReach}
use Rattle.extract_tests.proofs.large_tests.squares.Given as goal

abbrev pub invariant-loop-k : goal.invariant-loop-k
invariant-loop-k l = record {
  len : length l.squares.items ≡ l._k;
  reach : All IsShapeInReach l.squares.items;
  high : l.at ≤ 1000 * l._k;
}
