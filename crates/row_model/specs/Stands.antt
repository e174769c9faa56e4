-- where an instance stands in rows, and in which column of its cell and of its row a pin has a position
use Rattle.std.specs.Prelude.{ℕ, ◌+◌, ◌-◌, List, [], ◌∷◌, Bool, true, false, not, ◌==◌, ◌&&◌, if◌then◌else◌, Option, None, Some}
use Rattle.std.specs.List.{find}
use Rattle.std.specs.Option.{option_map}
use Rattle.design_model.specs.Netlist.{Netlist}
use Rattle.design_model.specs.declared.design.CellKind.{CellKind}
use Rattle.design_model.specs.declared.design.Pin.{Pin}
use Rattle.design_model.specs.declared.design.Position.{Position}
use Rattle.row_model.specs.Widths.{kind_of, columns_of}
use Rattle.row_model.specs.declared.rows.Seat.{Seat}
use Rattle.row_model.specs.Stand.{Stand}

-- an instance among the seats of a row, the first of which begins in column `left`
abbrev pub stand_in : Netlist → ℕ → ℕ → List Seat → ℕ → Option Stand
stand_in d row left [] instance = None
stand_in d row left (s ∷ seats) instance =
    if s.instance == instance then Some (record { row = row; left = left; mirror = s.mirror }) else stand_in d row (left + columns_of d s.instance) seats instance

abbrev pub or_else : Option Stand → Option Stand → Option Stand
or_else None other = other
or_else (Some stand) other = Some stand

-- an instance among rows, the first of which has this number
abbrev pub stand_from : Netlist → ℕ → List (List Seat) → ℕ → Option Stand
stand_from d row [] instance = None
stand_from d row (seats ∷ rows) instance = or_else (stand_in d row 0 seats instance) (stand_from d (row + 1) rows instance)

abbrev pub stand_of : Netlist → List (List Seat) → ℕ → Option Stand
stand_of d rows instance = stand_from d 0 rows instance

-- the row of an instance, 0 where it stands in none
abbrev pub row_in : Option Stand → ℕ
row_in None = 0
row_in (Some stand) = stand.row

abbrev pub row_of : Netlist → List (List Seat) → ℕ → ℕ
row_of d rows instance = row_in (stand_of d rows instance)

-- the positions of an instance's kind, in order
abbrev pub positions_in : Option CellKind → List Position
positions_in None = []
positions_in (Some kind) = kind.positions

abbrev pub positions_of : Netlist → ℕ → List Position
positions_of d instance = positions_in (kind_of d instance)

-- the column of a cell's position in its cell, counted from the left, where the cell of so many columns may be mirrored
abbrev pub turned_column : Bool → ℕ → ℕ → ℕ
turned_column mirror columns column = if mirror then columns - 1 - column else column

-- the column in its cell of a terminal's first position, if it has one
abbrev pub column_in : Option Position → Option ℕ
column_in found = option_map (λ (p : Position). p.column) found

abbrev pub first_column : Netlist → Pin → Option ℕ
first_column d p = column_in (find (λ (a : Position). a.terminal == p.terminal) (positions_of d p.instance))

-- whether a position is on an edge: the upper where `top` holds
abbrev pub is_on : Bool → Position → Bool
is_on true p = p.top
is_on false p = not p.top

-- the column in its cell of a terminal's first position on an edge, if it has one there
abbrev pub edge_column : Netlist → Bool → Pin → Option ℕ
edge_column d top p = column_in (find (λ (a : Position). a.terminal == p.terminal && is_on top a) (positions_of d p.instance))

-- where a column of a cell lies in its row
abbrev pub column_at : Option Stand → ℕ → Option ℕ → ℕ
column_at None columns column = 0
column_at (Some stand) columns None = stand.left
column_at (Some stand) columns (Some column) = stand.left + turned_column stand.mirror columns column

-- the column of a pin in its row: that of its first position
unfoldable pub column_of : Netlist → List (List Seat) → Pin → ℕ
column_of d rows p = column_at (stand_of d rows p.instance) (columns_of d p.instance) (first_column d p)
