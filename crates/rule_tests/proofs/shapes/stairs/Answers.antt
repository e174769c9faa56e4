use Rattle.std.proofs.Common.{arith}
use Rattle.std.proofs.lemmas.Grind.{common_steps}
use Rattle.std.proofs.lemmas.List.Elements.{All-push}
use Rattle.geom_core.specs.Reach.{IsShapeInReach}
use Rattle.rule_tests.proofs.shapes.stairs.Goals as goal

pub loop-k-preserved : goal.loop-k-preserved
loop-k-preserved c = record {
  len = grind (arith, common_steps);
  reach = rw c.in_ok-push.ensures.items (All-push IsShapeInReach _ _ c.loop-k.invariant.reach c.shape.ensures);
  high = omega arith;
}
