-- which pin enters which channel
use Rattle.std.specs.Prelude.{◌==◌, ℕ, ◌+◌, max, List, Bool, false, ◌&&◌, ◌||◌}
use Rattle.design_model.specs.Netlist.{Netlist}
use Rattle.design_model.specs.declared.design.Pin.{Pin}
use Rattle.row_model.specs.Stands.{row_of}
use Rattle.row_model.specs.declared.rows.Seat.{Seat}
use Rattle.feed_cells.specs.Crossings.{lowest, crossing_of}
use Rattle.feed_cells.specs.Feeds.{is_through_pin}
use Rattle.feed_cells.specs.declared.crossing.Crossing.{Crossing}
use Rattle.feed_cells.specs.declared.crossing.Crossing.TheVariants.{Alone, One, Many}

-- whether a pin of a net that crosses so enters a channel: the one channel of all pins; or the lowest that the pin touches from `lo` on, and where the net crosses
-- the pin's row by it the two beside the row
abbrev pub enters_by : Crossing → Netlist → List (List Seat) → Pin → ℕ → Bool
enters_by Alone d rows p channel = false
enters_by (One b) d rows p channel = channel == b
enters_by (Many lo hi) d rows p channel =
    channel == max (lowest d rows p) lo
    || (is_through_pin d rows p && (channel == row_of d rows p.instance || channel == row_of d rows p.instance + 1))

unfoldable pub enters : Netlist → List (List Seat) → Pin → ℕ → Bool
enters d rows p channel = enters_by (crossing_of d rows p.net) d rows p channel
