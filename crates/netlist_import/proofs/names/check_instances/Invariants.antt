use Rattle.std.proofs.Common.{◌≡◌, [], drop}
use Rattle.list_facts.specs.Texts.{texts}
use Rattle.netlist_import.specs.Parent.{fitting_names}
use Rattle.netlist_import.proofs.names.check_instances.Given as goal

abbrev pub invariant-loop-name : goal.invariant-loop-name
invariant-loop-name l = fitting_names (texts l.seen.keys) (drop l.name-index l.names) ≡ fitting_names [] l.names
