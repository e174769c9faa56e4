use Rattle.std.proofs.Common.{◌≡◌, ◌++◌, drop}
use Rattle.list_facts.specs.Texts.{texts}
use Rattle.netlist_import.specs.Constants.{undriven_in}
use Rattle.netlist_import.specs.Nets.{all_seen}
use Rattle.netlist_import.proofs.constants.undriven_in.Given as goal

abbrev pub invariant-loop-constant : goal.invariant-loop-constant
invariant-loop-constant l =
    texts l.found.items ++ undriven_in (all_seen l.renamings) l.modules l.gates (drop l.constant-index l.constants) ≡ undriven_in (all_seen l.renamings) l.modules l.gates l.constants
