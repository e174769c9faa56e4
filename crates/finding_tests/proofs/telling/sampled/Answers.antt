use Rattle.samples.specs.Sample.{sample}
use Rattle.netlist_core.proofs.HighKinds.{grid-high}
use Rattle.finding_tests.proofs.telling.sampled.Goals as goal

pub returns-in-Ok : goal.returns-in-Ok
returns-in-Ok c = grid-high sample c.in-Ok.ensures.file c.in-Ok.design c.in-Ok.ensures.checked
