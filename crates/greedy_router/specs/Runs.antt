-- a sweep that was made, and how the channel is routed by it
use Rattle.std.specs.Prelude.{Bool, true, false}
use Rattle.channel_model.specs.Pins.{Pins}
use Rattle.plain_router.specs.Plain.{plain_of}
use Rattle.greedy_router.specs.declared.sweep.By.TheVariants.{Greedy, Plain}
use Rattle.greedy_router.specs.declared.sweep.Routed.{Routed}
use Rattle.greedy_router.specs.declared.sweep.Sweep.{Sweep}
use Rattle.greedy_router.specs.declared.sweep.Swept.{Swept}
use Rattle.greedy_router.specs.declared.sweep.Swept.TheVariants.{Finished, Over}
use Rattle.greedy_router.specs.SweepWiring.{wiring_of}

-- a sweep that was made of a channel, and whether it is past its limits
pub record Ran : Type 0 where
  pub pins : Pins
  pub over : Bool
  pub sweep : Sweep

abbrev pub swept_by : Bool → Pins → Sweep → Swept
swept_by true pins sweep = Over sweep
swept_by false pins sweep = Finished sweep (wiring_of pins sweep)

-- how it ended
abbrev pub swept_of : Ran → Swept
swept_of ran = swept_by ran.over ran.pins ran.sweep

abbrev pub routed_by : Bool → Pins → Sweep → Routed
routed_by true pins sweep = record { by = Plain; wiring = plain_of pins; sweep = sweep }
routed_by false pins sweep = record { by = Greedy; wiring = wiring_of pins sweep; sweep = sweep }

-- how the channel is routed by it
abbrev pub routed_of : Ran → Routed
routed_of ran = routed_by ran.over ran.pins ran.sweep
