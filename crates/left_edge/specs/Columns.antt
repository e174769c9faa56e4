-- the net of a column, and columns with pins of two nets
use Rattle.std.specs.Prelude.{◌≢◌, ◌<◌, ◌==◌, if◌then◌else◌, ℕ, slice_index}
use Rattle.channel_model.specs.Pins.{Pins}

-- a column has pins of two different nets
pub record IsConstrained (pins : Pins) (column : ℕ) : Type 0 where
  pub top : 0 < slice_index pins.top column
  pub bottom : 0 < slice_index pins.bottom column
  pub different : slice_index pins.top column ≢ slice_index pins.bottom column

-- it is the first such column
pub record IsFirstConstrained (pins : Pins) (column : ℕ) : Type 0 where
  pub here : IsConstrained pins column
  pub before : (k : ℕ) → k < column → ¬ IsConstrained pins k

-- no column has pins of two different nets
abbrev pub IsUnconstrained : Pins → Type 0
IsUnconstrained pins = (column : ℕ) → ¬ IsConstrained pins column

-- the net with the pins of such a column, 0 where there are none
abbrev pub net_at : Pins → ℕ → ℕ
net_at pins column = if slice_index pins.bottom column == 0 then slice_index pins.top column else slice_index pins.bottom column
