use Rattle.std.specs.Prelude.{◌≡◌, ℕ, ◌+◌, List, Bool, true, false}
use Rattle.design_model.specs.Netlist.{Netlist}
use Rattle.design_model.specs.declared.design.Pin.{Pin}
use Rattle.row_model.specs.Stands.{row_of}
use Rattle.row_model.specs.declared.rows.Seat.{Seat}
use Rattle.feed_cells.specs.Crossings.{has_edge}

-- the channel beside a row: above it where `top` holds, else below it
abbrev pub channel_beside : Bool → ℕ → ℕ
channel_beside true row = row + 1
channel_beside false row = row

-- a pin touches a channel by a position on an edge of its cell, the upper where `top` holds
pub record Touches (d : Netlist) (rows : List (List Seat)) (top : Bool) (p : Pin) (channel : ℕ) : Type 0 where
  pub edge : has_edge d top p ≡ true
  pub beside : channel ≡ channel_beside top (row_of d rows p.instance)
