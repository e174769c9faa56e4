use Rattle.netlist_import.proofs.CallLaws.{parent-carries}
use Rattle.netlist_import.proofs.WritableLaws.{parent-writable}
use Rattle.netlist_import.proofs.parents.parent_of.Goals as goal

pub returns-in-Ok-clause-carries : goal.returns-in-Ok-clause-carries
returns-in-Ok-clause-carries c = parent-carries c.args.netlist.now c.args.cells.now c.in-Ok.parent c.in-Ok.ensures

pub returns-in-Ok-clause-writable : goal.returns-in-Ok-clause-writable
returns-in-Ok-clause-writable c = parent-writable c.args.netlist.now c.args.cells.now c.in-Ok.parent c.in-Ok.ensures
