use Rattle.std.proofs.Common.{◌≡◌, ◌<◌, ◌++◌, ℕ, List, Some, length, slice_get}
use Rattle.std.specs.Option.{option_map}
use Rattle.row_model.specs.declared.places.PinPlace.{PinPlace}
use Rattle.feed_cells.specs.Placement.{of_net}
use Rattle.feed_cells.proofs.placement.pins_by_net.Given as goal

abbrev pub invariant-loop-pin : goal.invariant-loop-pin
invariant-loop-pin l = (net : ℕ) → net < l.count → option_map (λ (pins : List PinPlace). pins ++ of_net net l.rest) (slice_get l.lists net) ≡ Some (of_net net l.fn.pins)

abbrev pub decreases-loop-pin : goal.decreases-loop-pin
decreases-loop-pin l = length l.rest
