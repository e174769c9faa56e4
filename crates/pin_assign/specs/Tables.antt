-- the tables of the channels
use Rattle.std.specs.Prelude.{◌==◌, ℕ, zero, suc, ◌+◌, ◌-◌, List, [], ◌∷◌, ◌++◌, map, length, replicate, Bool, true, false, ◌&&◌, Option, None, Some, slice_get}
use Rattle.std.specs.List.{find, flat_map, range_with_len}
use Rattle.channel_model.specs.Pins.{Pins}
use Rattle.design_model.specs.Netlist.{Netlist}
use Rattle.design_model.specs.declared.design.Pin.{Pin}
use Rattle.row_model.specs.Stands.{turned_column, edge_column}
use Rattle.row_model.specs.Widths.{columns_of}
use Rattle.row_model.specs.declared.rows.Seat.{Seat}
use Rattle.feed_cells.specs.Fed.{Fed, cells_in}
use Rattle.feed_cells.specs.declared.fed.Item.{Item}
use Rattle.feed_cells.specs.declared.fed.Item.TheVariants.{Cell, Feed}
use Rattle.pin_assign.specs.Entering.{enters}

-- whether the first position of a pin on an edge stands in this column of its cell, as the cell is seated
abbrev pub is_in_column : Option ℕ → Bool → ℕ → ℕ → Bool
is_in_column None mirror columns column = false
is_in_column (Some own) mirror columns column = turned_column mirror columns own == column

-- whether a pin of a seated cell enters a channel over an edge in a column of the cell
abbrev pub enters_in : Netlist → List (List Seat) → Bool → ℕ → Seat → ℕ → Pin → Bool
enters_in d rows top channel s column p =
    p.instance == s.instance && (is_in_column (edge_column d top p) s.mirror (columns_of d s.instance) column && enters d rows p channel)

-- the net of a pin, 0 for none
abbrev pub net_in : Option Pin → ℕ
net_in None = 0
net_in (Some p) = p.net

-- the entries of a cell over an edge into a channel, column by column
abbrev pub cell_entries : Netlist → List (List Seat) → Bool → ℕ → Seat → List ℕ
cell_entries d rows top channel s =
    map (λ (column : ℕ). net_in (find (enters_in d rows top channel s column) d.pins)) (range_with_len 0 (columns_of d s.instance))

-- the entries of an item: a feed enters the channels on both sides of its row
abbrev pub item_entries : Netlist → List (List Seat) → Bool → ℕ → Item → List ℕ
item_entries d rows top channel (Cell s) = cell_entries d rows top channel s
item_entries d rows top channel (Feed net) = net ∷ []

-- the entries along an edge of a row, padded to so many columns
abbrev pub padded : ℕ → List ℕ → List ℕ
padded width entries = entries ++ replicate (width - length entries) 0

abbrev pub row_entries : Netlist → List (List Seat) → Bool → ℕ → Option (List Item) → List ℕ
row_entries d rows top channel None = []
row_entries d rows top channel (Some items) = flat_map (item_entries d rows top channel) items

-- the row below a channel, if there is one: channel r lies below row r
abbrev pub row_below : List (List Item) → ℕ → Option (List Item)
row_below rows zero = None
row_below rows (suc row) = slice_get rows row

-- the table of a channel: in its `top` list the bottom positions of the row above it, and in its `bottom` list the top positions of the row below it
unfoldable pub table_of : Netlist → Fed → ℕ → Pins
table_of d fed channel = record {
  top = padded fed.width (row_entries d (cells_in fed.rows) false channel (slice_get fed.rows channel));
  bottom = padded fed.width (row_entries d (cells_in fed.rows) true channel (row_below fed.rows channel));
}

-- the tables of all channels, from the lowest up
abbrev pub tables_of : Netlist → Fed → List Pins
tables_of d fed = map (table_of d fed) (range_with_len 0 (length fed.rows + 1))
