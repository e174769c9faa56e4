-- rows with their feeds
use Rattle.std.specs.Prelude.{◌≡◌, ◌==◌, ℕ, ◌+◌, List, [], ◌∷◌, ◌++◌, map, filter, length, sum, fold, max, ◌&&◌, Option, Some, None}
use Rattle.std.specs.List.{filter_map, range_with_len}
use Rattle.design_model.specs.Netlist.{Netlist}
use Rattle.row_model.specs.Rows.{ArePlaced}
use Rattle.row_model.specs.Widths.{cell_height, columns_of}
use Rattle.row_model.specs.declared.rows.Seat.{Seat}
use Rattle.feed_cells.specs.Crossings.{all_nets, crossing_of, is_in}
use Rattle.feed_cells.specs.Feeds.{is_fed, feed_place}
use Rattle.feed_cells.specs.declared.fed.Item.{Item}
use Rattle.feed_cells.specs.declared.fed.Item.TheVariants.{Cell, Feed}

-- the feeds that stand in a row before the seat of this number, in the order of their nets
abbrev pub feeds_at : Netlist → List (List Seat) → ℕ → List Seat → ℕ → List Item
feeds_at d rows row seats place = map Feed (filter (λ (net : ℕ). is_fed d rows row net && feed_place d rows seats net == place) (all_nets d))

-- the seats of a row from one of this number on, each behind its feeds, and the feeds behind the last
abbrev pub items_from : Netlist → List (List Seat) → ℕ → List Seat → ℕ → List Seat → List Item
items_from d rows row seats place [] = feeds_at d rows row seats place
items_from d rows row seats place (s ∷ rest) = feeds_at d rows row seats place ++ (Cell s ∷ items_from d rows row seats (place + 1) rest)

-- a row with its feeds
abbrev pub fed_row : Netlist → List (List Seat) → ℕ → List Seat → List Item
fed_row d rows row seats = items_from d rows row seats 0 seats

-- rows with their feeds, the first of which has this number
abbrev pub fed_from : Netlist → List (List Seat) → ℕ → List (List Seat) → List (List Item)
fed_from d rows row [] = []
fed_from d rows row (seats ∷ rest) = fed_row d rows row seats ∷ fed_from d rows (row + 1) rest

-- the width of an item in columns: a feed has one
abbrev pub item_width : Netlist → Item → ℕ
item_width d (Cell s) = columns_of d s.instance
item_width d (Feed net) = 1

abbrev pub items_width : Netlist → List Item → ℕ
items_width d items = sum (map (item_width d) items)

-- the nets that stand in a channel, in the order of their numbers
abbrev pub nets_in : Netlist → List (List Seat) → ℕ → List ℕ
nets_in d rows channel = filter (λ (net : ℕ). is_in (crossing_of d rows net) channel) (all_nets d)

-- the height of a row in units: that of its highest cell, or where no cell stands in it that of the highest kind
abbrev pub row_height : Netlist → List Seat → ℕ
row_height d [] = d.height
row_height d (s ∷ seats) = fold max (cell_height d s.instance) (map (λ (t : Seat). cell_height d t.instance) seats)

-- the heights of rows
abbrev pub heights_of : Netlist → List (List Seat) → List ℕ
heights_of d rows = map (row_height d) rows

-- rows with feeds, their heights, the width of the widest, and how many nets stand in each channel
pub record Fed : Type 0 where
  pub rows : List (List Item)
  pub heights : List ℕ
  pub width : ℕ
  pub nets : List ℕ

unfoldable pub fed_rows : Netlist → List (List Seat) → Fed
fed_rows d rows = record {
  rows = fed_from d rows 0 rows;
  heights = heights_of d rows;
  width = fold max 0 (map (items_width d) (fed_from d rows 0 rows));
  nets = map (λ (channel : ℕ). length (nets_in d rows channel)) (range_with_len 0 (length rows + 1));
}

-- the cells of a row with feeds
abbrev pub seat_in : Item → Option Seat
seat_in (Cell s) = Some s
seat_in (Feed net) = None

abbrev pub seats_in : List Item → List Seat
seats_in items = filter_map seat_in items

-- the rows that the cells of rows with feeds form
abbrev pub cells_in : List (List Item) → List (List Seat)
cells_in rows = map seats_in rows

-- these are the rows with feeds of the rows that their cells form, which hold each instance of the design once
pub record IsFed (d : Netlist) (fed : Fed) : Type 0 where
  pub placed : ArePlaced d (cells_in fed.rows)
  pub is : fed ≡ fed_rows d (cells_in fed.rows)
