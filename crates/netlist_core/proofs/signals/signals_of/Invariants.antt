use Rattle.std.proofs.Common.{◌≡◌, ◌++◌, drop}
use Rattle.netlist_core.specs.Signals.{signals_of}
use Rattle.netlist_core.proofs.signals.signals_of.Given as goal

abbrev pub invariant-loop-i : goal.invariant-loop-i
invariant-loop-i l = l.signals.items ++ signals_of l.library l.i (drop l.i l.calls) ≡ signals_of l.library 0 l.calls
