-- the nets of a channel, from where to where a net has pins, and the density
use Rattle.std.specs.Prelude.{◌≡◌, ◌⊎◌, ◌<◌, ◌==◌, ◌++◌, not, if◌then◌else◌, Bool, ℕ, suc, List, [], ◌∷◌, Contains, slice_index, filter, fold, max}
use Rattle.std.specs.List.{range_with_len}
use Rattle.std.specs.List.Sorted.{IsStrictlyIncreasing}
use Rattle.channel_model.specs.Pins.{Pins, pin_count}

-- a net has a pin in the channel
abbrev pub StandsIn : Pins → ℕ → Type 0
StandsIn pins net = (0 < net) × ((column : ℕ) × ((slice_index pins.top column ≡ net) ⊎ (slice_index pins.bottom column ≡ net)))

-- the nets of a channel, each once, in number order, are these
pub record AreNets (pins : Pins) (nets : List ℕ) : Type 0 where
  pub ascending : IsStrictlyIncreasing nets
  pub standing : (net : ℕ) → Contains nets net → StandsIn pins net
  pub listed : (net : ℕ) → StandsIn pins net → Contains nets net

-- whether a net has a pin in the channel
abbrev pub has_pin : Pins → ℕ → Bool
has_pin pins net = not (pin_count pins net == 0)

-- the nets of a channel: of the numbers from 1 to the greatest along its edges those that have a pin
unfoldable pub nets_of : Pins → List ℕ
nets_of pins = filter (has_pin pins) (range_with_len 1 (fold max 0 (pins.top ++ pins.bottom)))

-- where a net stands in a list of nets, from 0 on
abbrev pub place_of : List ℕ → ℕ → ℕ
place_of [] net = 0
place_of (n ∷ nets) net = if n == net then 0 else suc (place_of nets net)
