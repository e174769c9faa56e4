use Rattle.std.proofs.Common.{◌≤◌, ◌-◌, length}
use Rattle.design_model.specs.PinOrder.{pins_before}
use Rattle.design_model.proofs.pin_search.pins_before.Given as goal

abbrev pub invariant-loop-low : goal.invariant-loop-low
invariant-loop-low l = record {
  below : l.low ≤ pins_before l.pins (l.instance, l.terminal);
  above : pins_before l.pins (l.instance, l.terminal) ≤ l.high;
  within : l.high ≤ length l.pins;
}

abbrev pub decreases-loop-low : goal.decreases-loop-low
decreases-loop-low l = l.high - l.low
