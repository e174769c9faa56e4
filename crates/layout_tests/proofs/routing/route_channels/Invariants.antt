use Rattle.std.proofs.Common.{◌≡◌, ◌<◌, ℕ, map, take, Some}
use Rattle.std.specs.Prelude.{slice_get}
use Rattle.channel_model.specs.Pins.{Pins}
use Rattle.channel_model.specs.Wired.{Wired}
use Rattle.plain_router.specs.Plain.{plain_of}
use Rattle.layout_tests.proofs.routing.route_channels.Given as goal

abbrev pub invariant-loop-channel : goal.invariant-loop-channel
invariant-loop-channel l = record {
  stated : l.wirings.items ≡ map plain_of (take l.channel-index l.channels);
  wired : (k : ℕ) → k < l.channel-index → (pins : Pins) → slice_get l.channels k ≡ Some pins → Wired pins (plain_of pins);
}
