use Rattle.std.proofs.Common.{arith}
use Rattle.std.proofs.lemmas.List.Elements.{All-push}
use Rattle.geom_core.specs.Reach.{IsShapeInReach}
use Rattle.rule_tests.proofs.shapes.grid.Goals as goal

pub loop-column-preserved : goal.loop-column-preserved
loop-column-preserved c = record {
  len = omega arith;
  reach = rw c.in_ok-push.ensures.items (All-push IsShapeInReach _ _ c.loop-column.invariant.reach c.shape.ensures);
  high = omega arith;
}
