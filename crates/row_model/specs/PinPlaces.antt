-- where a pin stands in rows, which channels it touches, and whether it passes its row
use Rattle.std.specs.Prelude.{ℕ, ◌+◌, List, Bool, true, false, ◌&&◌, if◌then◌else◌, Option, is_some}
use Rattle.row_model.specs.Stand.{Stand}
use Rattle.design_model.specs.Netlist.{Netlist}
use Rattle.design_model.specs.declared.design.Pin.{Pin}
use Rattle.row_model.specs.Stands.{column_at, edge_column, first_column, row_in, stand_of}
use Rattle.row_model.specs.Widths.{columns_of}
use Rattle.row_model.specs.declared.cell_columns.PinColumns.{PinColumns}
use Rattle.row_model.specs.declared.places.PinPlace.{PinPlace}
use Rattle.row_model.specs.declared.rows.Seat.{Seat}

-- the column in its row of the first position of a pin whose cell stands there
unfoldable pub pin_column : Netlist → Option Stand → Pin → ℕ
pin_column d stand p = column_at stand (columns_of d p.instance) (first_column d p)

-- where a pin stands whose cell stands there
unfoldable pub pin_place_at : Netlist → Option Stand → Pin → PinPlace
pin_place_at d stand p = record {
  pin = p;
  row = row_in stand;
  bottom = edge_column d false p;
  top = edge_column d true p;
  column = pin_column d stand p;
}

-- the same, where the pin has these columns in its cell
abbrev pub with_columns : Netlist → Option Stand → Pin → PinColumns → PinPlace
with_columns d stand p columns = record {
  pin = p;
  row = row_in stand;
  bottom = columns.bottom;
  top = columns.top;
  column = column_at stand (columns_of d p.instance) columns.first;
}

-- where a pin of a design in rows stands
abbrev pub pin_place : Netlist → List (List Seat) → Pin → PinPlace
pin_place d rows p = pin_place_at d (stand_of d rows p.instance) p

-- the lowest and the highest channel that a pin touches: channel r lies below row r
abbrev pub lowest_of : PinPlace → ℕ
lowest_of e = if is_some e.bottom then e.row else e.row + 1

abbrev pub highest_of : PinPlace → ℕ
highest_of e = if is_some e.top then e.row + 1 else e.row

-- whether a pin passes its row: it has positions on both edges
abbrev pub passes_row : PinPlace → Bool
passes_row e = is_some e.bottom && is_some e.top

-- the column of a pin in its cell on an edge, the upper where `top` holds
abbrev pub edge_of : Bool → PinPlace → Option ℕ
edge_of true e = e.top
edge_of false e = e.bottom
