-- what enters a channel, by a table of the instances' pins
use Rattle.std.specs.Prelude.{◌≡◌, ◌==◌, ◌+◌, ◌<◌, ℕ, List, [], ◌∷◌, max, map, filter, fold, length, Bool, false, ◌&&◌, ◌||◌, if◌then◌else◌, Some, slice_get}
use Rattle.std.specs.List.{range_with_len}
use Rattle.list_facts.specs.Lists.{list_there}
use Rattle.design_model.specs.Netlist.{Netlist}
use Rattle.row_model.specs.PinPlaces.{edge_of, lowest_of}
use Rattle.row_model.specs.Widths.{columns_of}
use Rattle.row_model.specs.declared.rows.Seat.{Seat}
use Rattle.feed_cells.specs.Placement.{placed_pin}
use Rattle.feed_cells.specs.declared.crossing.Crossing.{Crossing}
use Rattle.feed_cells.specs.declared.crossing.Crossing.TheVariants.{Alone, One, Many}
use Rattle.feed_cells.specs.declared.fed.Item.{Item}
use Rattle.feed_cells.specs.declared.fed.Item.TheVariants.{Cell, Feed}
use Rattle.feed_cells.specs.declared.placement.PlacedPin.{PlacedPin}
use Rattle.pin_assign.specs.Tables.{is_in_column}

-- whether a placed pin whose net crosses so enters a channel
abbrev pub enters_as : Crossing → PlacedPin → ℕ → Bool
enters_as Alone a channel = false
enters_as (One b) a channel = channel == b
enters_as (Many lo hi) a channel = channel == max (lowest_of a.place) lo || (a.through && (channel == a.place.row || channel == a.place.row + 1))

-- whether a pin enters a channel over an edge in a column of its cell, which has so many columns and may be mirrored
abbrev pub is_laid : Bool → ℕ → Bool → ℕ → ℕ → PlacedPin → Bool
is_laid mirror columns top channel column a = is_in_column (edge_of top a.place) mirror columns column && enters_as a.crossing a channel

-- the entry of a column together with that of one more pin: the first that there is
abbrev pub laid : Bool → ℕ → Bool → ℕ → ℕ → ℕ → PlacedPin → ℕ
laid mirror columns top channel column net a = if net == 0 && is_laid mirror columns top channel column a then a.place.pin.net else net

-- the entries of a cell with these pins
unfoldable pub laid_entries : Bool → ℕ → Bool → ℕ → List PlacedPin → List ℕ
laid_entries mirror columns top channel pins = map (λ (column : ℕ). fold (laid mirror columns top channel column) 0 pins) (range_with_len 0 columns)

-- the pins of an instance among all
abbrev pub of_instance : ℕ → List PlacedPin → List PlacedPin
of_instance instance pins = filter (λ (a : PlacedPin). a.place.pin.instance == instance) pins

-- a table has the pins of each instance of a design in rows
pub record AreTabled (d : Netlist) (rows : List (List Seat)) (table : List (List PlacedPin)) : Type 0 where
  pub each : (i : ℕ) → i < length d.instances → slice_get table i ≡ Some (of_instance i (map (placed_pin d rows) d.pins))

-- the entries of an item by a table of the instances' pins
unfoldable pub tabled_entries : Netlist → List (List PlacedPin) → Bool → ℕ → Item → List ℕ
tabled_entries d table top channel (Cell s) = laid_entries s.mirror (columns_of d s.instance) top channel (list_there (slice_get table s.instance))
tabled_entries d table top channel (Feed net) = net ∷ []
