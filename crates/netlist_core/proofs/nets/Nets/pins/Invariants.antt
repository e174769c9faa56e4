use Rattle.std.proofs.Common.{◌≡◌, ◌++◌, map, drop}
use Rattle.netlist_core.specs.Signals.{pin_in}
use Rattle.netlist_core.proofs.nets.Nets.pins.Given as goal

abbrev pub invariant-loop-signal : goal.invariant-loop-signal
invariant-loop-signal l =
    l.pins.items ++ map (pin_in (l.self)) (drop l.signal-index l.signals) ≡ map (pin_in (l.self)) l.signals
