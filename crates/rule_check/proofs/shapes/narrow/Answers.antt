use Rattle.std.proofs.Common.{arith}
use Rattle.std.proofs.lemmas.Grind.{common_steps}
use Rattle.geom_core.specs.declared.layout.Shape.{Shape}
use Rattle.close_rects.specs.Items.{HasInside}
use Rattle.rule_check.proofs.shapes.narrow.Goals as goal
use Rattle.std_laws.proofs.Places.{get_or-more}

pub loop-k-preserved : goal.loop-k-preserved
loop-k-preserved c = record {
  narrow = grind (arith, common_steps);
  inside = get_or-more (λ (s : Shape). HasInside s.rect) c.shapes-shapes.result.now c.loop-k.k c.index-shapes-k.result c.loop-k-test.true c.index-shapes-k.is
      c.is_narrow-fails.ensures.inside c.loop-k.invariant.inside;
}
