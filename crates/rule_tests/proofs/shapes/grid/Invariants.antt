use Rattle.std.proofs.Common.{◌*◌, ◌+◌, ◌≤◌, length}
use Rattle.std.specs.Prelude.{All}
use Rattle.geom_core.specs.Reach.{IsShapeInReach}
use Rattle.rule_tests.proofs.shapes.grid.Given as goal

abbrev pub invariant-loop-column : goal.invariant-loop-column
invariant-loop-column l = record {
  len : length l.squares.items ≤ length l.initial.squares.items + l._column;
  reach : All IsShapeInReach l.squares.items;
  high : l.x ≤ 1000 * l._column;
}

abbrev pub invariant-loop-row : goal.invariant-loop-row
invariant-loop-row l = record {
  len : length l.squares.items ≤ 65536 * l._row;
  reach : All IsShapeInReach l.squares.items;
  high : l.y ≤ 1000 * l._row;
}
