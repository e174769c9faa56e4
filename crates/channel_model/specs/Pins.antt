-- the pins of a channel, and what makes two lists of pins a channel
use Rattle.std.specs.Prelude.{◌≡◌, ◌≢◌, ◌<◌, ◌≤◌, ◌+◌, ◌==◌, ◌&&◌, ◌||◌, not, Bool, ℕ, List, length, count_by}
use Rattle.std.specs.List.{list_all}
use Rattle.limits.specs.declared.TheConstants.{MOST_COLUMNS}

-- the nets of the pins along the two edges of a channel, column by column, with 0 where there is no pin
pub record Pins : Type 0 where
  pub top : List ℕ
  pub bottom : List ℕ

-- whether an entry is a pin's net
abbrev pub is_pin : ℕ → Bool
is_pin net = not (net == 0)

-- how many pins a net has
abbrev pub pin_count : Pins → ℕ → ℕ
pin_count pins net = count_by (λ n. n == net) pins.top + count_by (λ n. n == net) pins.bottom

-- a pin's net is none, or has other pins
abbrev pub is_matched : Pins → ℕ → Bool
is_matched pins net = net == 0 || not (pin_count pins net == 1)

-- the pins along both edges are matched
abbrev pub are_matched : Pins → Bool
are_matched pins = list_all (is_matched pins) pins.top && list_all (is_matched pins) pins.bottom

-- no net has one pin alone
abbrev pub ArePaired : Pins → Type 0
ArePaired pins = (net : ℕ) → 0 < net → pin_count pins net ≢ 1

-- two lists of pins make a channel
pub record IsChannel (pins : Pins) : Type 0 where
  pub matched : length pins.top ≡ length pins.bottom
  pub within : length pins.top ≤ MOST_COLUMNS
  pub paired : ArePaired pins
