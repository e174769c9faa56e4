use Rattle.extract_tests.proofs.NearShapes.{near-all}
use Rattle.extract_tests.proofs.texts.layout_of.Goals as goal

pub returns-in-Ok-expand-clause-reach : goal.returns-in-Ok-expand-clause-reach
returns-in-Ok-expand-clause-reach c = near-all _ c.in-Ok-expand.layout c.in-Ok-expand.ensures.within
