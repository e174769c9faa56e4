use Rattle.std.proofs.Common.{◌≡◌, drop}
use Rattle.list_facts.specs.Texts.{texts}
use Rattle.netlist_import.proofs.EachLaws.{with_front}
use Rattle.netlist_import.specs.Calls.{terminal_word}
use Rattle.netlist_import.specs.Faults.{each}
use Rattle.netlist_import.specs.Nets.{all_seen}
use Rattle.netlist_import.proofs.calls.terminal_words.Given as goal

abbrev pub invariant-loop-name : goal.invariant-loop-name
invariant-loop-name l =
    with_front l.found.items (each (terminal_word (all_seen l.renamings) (texts l.undriven) l.lines l.gate) (drop l.name-index l.names))
    ≡ each (terminal_word (all_seen l.renamings) (texts l.undriven) l.lines l.gate) l.names
