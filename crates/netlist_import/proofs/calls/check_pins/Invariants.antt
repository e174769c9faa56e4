use Rattle.std.proofs.Common.{◌≡◌, [], drop}
use Rattle.list_facts.specs.Texts.{texts}
use Rattle.netlist_import.specs.Calls.{fitting_pins}
use Rattle.netlist_import.proofs.calls.check_pins.Given as goal

abbrev pub invariant-loop-pin : goal.invariant-loop-pin
invariant-loop-pin l = fitting_pins l.terminals l.lines (texts l.seen.items) (drop l.pin-index l.pins) ≡ fitting_pins l.terminals l.lines [] l.pins
