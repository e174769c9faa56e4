use Rattle.std.proofs.Common.{arith}
use Rattle.std.proofs.lemmas.Grind.{common_steps}
use Rattle.netlist_core.proofs.library.names_of.Goals as goal

pub loop-module-preserved : goal.loop-module-preserved
loop-module-preserved c = grind (arith, common_steps)
