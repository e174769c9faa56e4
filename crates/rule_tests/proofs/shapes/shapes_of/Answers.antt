use Rattle.std.proofs.Common.{arith}
use Rattle.std.proofs.lemmas.Grind.{common_steps}
use Rattle.std.proofs.lemmas.List.Elements.{All-push}
use Rattle.geom_core.specs.Reach.{IsShapeInReach}
use Rattle.rule_tests.proofs.shapes.shapes_of.Goals as goal

pub loop-placed-preserved : goal.loop-placed-preserved
loop-placed-preserved c = record {
  len = grind (arith, common_steps);
  reach = rw c.in_ok-push.ensures.items (All-push IsShapeInReach _ _ c.loop-placed.invariant.reach c.shape_at.ensures);
}
