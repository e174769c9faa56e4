use Rattle.std.specs.Prelude.{◌≡◌, ◌<◌, ◌≤◌, ℕ, List, ◌∷◌, Contains}
use Rattle.design_model.specs.Netlist.{Netlist}
use Rattle.design_model.specs.declared.design.Pin.{Pin}
use Rattle.row_model.specs.declared.rows.Seat.{Seat}
use Rattle.feed_cells.specs.Crossings.{lowest, highest}
use Rattle.feed_cells.specs.declared.crossing.Crossing.{Crossing}
use Rattle.feed_cells.specs.declared.crossing.Crossing.TheVariants.{Alone, One, Many}

abbrev pub last_channel : Crossing → ℕ
last_channel Alone = 0
last_channel (One b) = b
last_channel (Many lo hi) = hi

-- two or more pins that all touch one channel
pub record AllTouch (d : Netlist) (rows : List (List Seat)) (pins : List Pin) (channel : ℕ) : Type 0 where
  pub first : Pin
  pub second : Pin
  pub others : List Pin
  pub some : pins ≡ first ∷ second ∷ others
  pub lows : (p : Pin) → Contains pins p → lowest d rows p ≤ channel
  pub highs : (p : Pin) → Contains pins p → channel ≤ highest d rows p

-- pins of which none lies wholly above or below the channels from `lo` to `hi`, one touches none above `lo`, and one none below `hi`
pub record AreSpread (d : Netlist) (rows : List (List Seat)) (pins : List Pin) (lo hi : ℕ) : Type 0 where
  pub ordered : lo < hi
  pub lows : (p : Pin) → Contains pins p → lowest d rows p ≤ hi
  pub highs : (p : Pin) → Contains pins p → lo ≤ highest d rows p
  pub under : (p : Pin) × Contains pins p × (highest d rows p ≡ lo)
  pub over : (p : Pin) × Contains pins p × (lowest d rows p ≡ hi)
