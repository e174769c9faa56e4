use Rattle.std.proofs.Common.{◌≡◌, drop}
use Rattle.list_facts.specs.Texts.{texts}
use Rattle.netlist_import.specs.Nets.{all_seen}
use Rattle.netlist_import.specs.Parent.{fitting_terminals}
use Rattle.netlist_import.proofs.terminals.check_terminals.Given as goal

abbrev pub invariant-loop-terminal : goal.invariant-loop-terminal
invariant-loop-terminal l =
    fitting_terminals (all_seen l.renamings) (texts l.undriven) (texts l.seen.items) (drop l.terminal-index l.terminals)
    ≡ fitting_terminals (all_seen l.renamings) (texts l.undriven) (texts l.fn.seen.items) l.terminals
