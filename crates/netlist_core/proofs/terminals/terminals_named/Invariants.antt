use Rattle.std.proofs.Common.{◌≡◌, ◌++◌, map}
use Rattle.list_facts.specs.Texts.{texts}
use Rattle.netlist_core.specs.Cells.{terminal_in}
use Rattle.netlist_core.proofs.terminals.terminals_named.Given as goal

abbrev pub invariant-loop-name : goal.invariant-loop-name
invariant-loop-name l =
    l.terminals.items ++ map (terminal_in (texts l.power.keys)) (texts l.name-iterator)
    ≡ map (terminal_in (texts l.power.keys)) (l.names)
