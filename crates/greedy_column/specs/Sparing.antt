-- a column makes a new track only where a pin has none to enter
use Rattle.std.specs.Prelude.{◌≡◌, ◌≢◌, ◌<◌, ℕ, List, length}
use Rattle.channel_model.specs.Pins.{Pins}
use Rattle.greedy_column.specs.declared.column.Track.{Track}
use Rattle.greedy_column.specs.declared.column.Column.{Column}
use Rattle.greedy_column.specs.Tracks.{ids, line_of}
use Rattle.greedy_column.specs.Replay.{top_pin, bottom_pin}
use Rattle.greedy_column.specs.Lawful.{HasEqualPins, EntersStraight, IsOpen, WasFree}

-- no track was open to a net
abbrev pub HasNone : List Track → ℕ → Type 0
HasNone before net = (id : ℕ) → IsOpen before net id → ⊥

-- no track open to the top pin lay above one open to the bottom pin
abbrev pub HasNoPair : List Track → ℕ → ℕ → Type 0
HasNoPair before top bottom =
    (upper lower : ℕ) → IsOpen before top upper → IsOpen before bottom lower → line_of (ids before) lower < line_of (ids before) upper → ⊥

-- A track is made only where a pin has none to enter.
pub record SparesTracks (pins : Pins) (column : ℕ) (before : List Track) (done : Column) : Type 0 where
  pub top_alone : 0 < length done.made → 0 < top_pin pins column → bottom_pin pins column ≡ 0 → HasNone before (top_pin pins column)
  pub bottom_alone : 0 < length done.made → 0 < bottom_pin pins column → top_pin pins column ≡ 0 → HasNone before (bottom_pin pins column)
  pub two : 0 < length done.made → 0 < top_pin pins column → 0 < bottom_pin pins column → top_pin pins column ≢ bottom_pin pins column
      → HasNoPair before (top_pin pins column) (bottom_pin pins column)
  pub second_top : 1 < length done.made → HasNone before (top_pin pins column)
  pub second_bottom : 1 < length done.made → HasNone before (bottom_pin pins column)
  pub equal : 0 < length done.made → HasEqualPins pins column
      → EntersStraight pins column before × ((id : ℕ) → WasFree before id → ⊥)
