use Rattle.netlist_core.proofs.HighKinds.{agrees-high}
use Rattle.netlist_core.proofs.checking.to_design.Goals as goal

pub returns-clause-high : goal.returns-clause-high
returns-clause-high c = agrees-high c.args.rules.now _ _ c.calls_design.result c.calls_design.ensures.is
