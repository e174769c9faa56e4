use Rattle.std.proofs.Common.{◌≡◌, ◌<◌, ◌++◌, ℕ, List, Some, length, slice_get}
use Rattle.std.specs.Option.{option_map}
use Rattle.feed_cells.specs.declared.placement.PlacedPin.{PlacedPin}
use Rattle.pin_assign.specs.Tabled.{of_instance}
use Rattle.pin_assign.proofs.tabling.pins_by_instance.Given as goal

abbrev pub invariant-loop-pin : goal.invariant-loop-pin
invariant-loop-pin l = (i : ℕ) → i < l.count → option_map (λ (pins : List PlacedPin). pins ++ of_instance i l.rest) (slice_get l.table i) ≡ Some (of_instance i l.fn.pins)

abbrev pub decreases-loop-pin : goal.decreases-loop-pin
decreases-loop-pin l = length l.rest
