use Rattle.std.proofs.Common.{◌≡◌, ◌<◌, ◌≤◌, ◌+◌, ℕ, suc, Some, drop, length}
use Rattle.std.specs.List.{slice_get}
use Rattle.cif_writer.specs.Labels.{first_pin}
use Rattle.cif_writer.proofs.net_firsts.first_pins.Given as goal

abbrev pub invariant-loop-left : goal.invariant-loop-left
invariant-loop-left l = record {
  within : l.left ≤ length l.pins;
  count : length l.firsts.items ≡ length l.design.nets;
  each : (n : ℕ) → n < length l.design.nets → slice_get l.firsts.items n ≡ Some (l.left + first_pin (drop l.left l.pins) (suc n));
}

abbrev pub decreases-loop-left : goal.decreases-loop-left
decreases-loop-left l = l.left
