-- the columns of pins in their cells
use Rattle.std.specs.Prelude.{ℕ, ◌==◌, ◌&&◌, List, [], length, map, filter, true, false, Option, None, Some}
use Rattle.std.specs.List.{find, range_with_len}
use Rattle.design_model.specs.Netlist.{Netlist}
use Rattle.design_model.specs.declared.design.CellKind.{CellKind}
use Rattle.design_model.specs.declared.design.Pin.{Pin}
use Rattle.design_model.specs.declared.design.Position.{Position}
use Rattle.row_model.specs.Stands.{column_in, is_on, positions_of}
use Rattle.row_model.specs.declared.cell_columns.PinColumns.{PinColumns}

-- the columns of a terminal's first position, of its first on the lower edge, and of its first on the upper edge
abbrev pub terminal_columns : List Position → ℕ → PinColumns
terminal_columns positions terminal = record {
  first = column_in (find (λ (a : Position). a.terminal == terminal) positions);
  bottom = column_in (find (λ (a : Position). a.terminal == terminal && is_on false a) positions);
  top = column_in (find (λ (a : Position). a.terminal == terminal && is_on true a) positions);
}

-- those of a pin
abbrev pub pin_columns : Netlist → Pin → PinColumns
pin_columns d p = terminal_columns (positions_of d p.instance) p.terminal

-- those of each terminal of a kind
abbrev pub kind_columns : CellKind → List PinColumns
kind_columns k = map (terminal_columns k.positions) (range_with_len 0 (length k.terminals))

-- those of a terminal without positions
abbrev pub nowhere : PinColumns
nowhere = record { first = None; bottom = None; top = None }

-- the positions of a terminal among all
abbrev pub of_terminal : ℕ → List Position → List Position
of_terminal terminal positions = filter (λ (a : Position). a.terminal == terminal) positions

-- those that a table has at a place
abbrev pub columns_there : Option PinColumns → PinColumns
columns_there None = nowhere
columns_there (Some columns) = columns

-- a table among others, and an empty one where there is none
abbrev pub table_there : Option (List PinColumns) → List PinColumns
table_there None = []
table_there (Some table) = table
