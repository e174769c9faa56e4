use Rattle.std.specs.Prelude.{ℕ, List, Bool, not, Option, None, Some, slice_get, slice_index, if◌then◌else◌}
use Rattle.channel_model.specs.Pins.{Pins}
use Rattle.design_model.specs.Netlist.{Netlist}
use Rattle.feed_cells.specs.Fed.{Fed, cells_in}
use Rattle.feed_cells.proofs.Touching.{channel_beside}
use Rattle.feed_cells.specs.declared.fed.Item.{Item}
use Rattle.pin_assign.proofs.Sources.{Source, SourceEnters, StandsOver}
use Rattle.pin_assign.specs.Tables.{row_below}

-- a place of a table: a column of its `top` list where `upper` holds, and else of its `bottom` list
pub record TablePlace : Type 0 where
  pub upper : Bool
  pub column : ℕ

-- the entry of a table at a place, 0 past its end
abbrev pub entry_at : Pins → TablePlace → ℕ
entry_at pins place = slice_index (if place.upper then pins.top else pins.bottom) place.column

-- the row beside a channel, if there is one: above it for its `top` list, below it for its `bottom` list
abbrev pub row_beside : List (List Item) → ℕ → Bool → Option (List Item)
row_beside rows channel upper = if upper then slice_get rows channel else row_below rows channel

-- the channel beside a row for which the row's pins stand in its `top` list, or in its `bottom` list: channel r lies below row r
abbrev pub channel_facing : ℕ → Bool → ℕ
channel_facing row upper = channel_beside (not upper) row

-- a row, if there is one, has this cause on its edge in this column
abbrev pub HasOver : Netlist → Bool → Source → Option (List Item) → ℕ → Type 0
HasOver d top cause None column = ⊥
HasOver d top cause (Some items) column = StandsOver d top cause items 0 column

-- a cause stands at a place of a channel's table: it enters the channel from the lower edge of the row above it, or from the upper edge of the row below it
pub record StandsAt (d : Netlist) (fed : Fed) (channel : ℕ) (cause : Source) (place : TablePlace) : Type 0 where
  pub over : HasOver d (not place.upper) cause (row_beside fed.rows channel place.upper) place.column
  pub entering : SourceEnters d (cells_in fed.rows) channel cause
