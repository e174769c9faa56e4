use Rattle.std.proofs.Common.{◌≡◌, ◌<◌, ◌+◌, ◌++◌, ◌^◌, length}
use Rattle.netlist_core.specs.Signals.{call_signals, signals_from}
use Rattle.netlist_core.proofs.signals.add_signals.Given as goal

abbrev pub invariant-loop-first : goal.invariant-loop-first
invariant-loop-first l = record {
  signals : l.signals.items ++ signals_from l.instance l.terminal l.terminals l.words ≡ l.initial.signals.items ++ call_signals l.library l.instance l.call;
  few : l.terminal + length l.terminals < 2 ^ 32;
}

abbrev pub decreases-loop-first : goal.decreases-loop-first
decreases-loop-first l = length l.terminals
