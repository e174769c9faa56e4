-- the widths of instances and rows in columns, and the heights of instances in units
use Rattle.std.specs.Prelude.{ℕ, List, map, sum, length, Option, None, Some, slice_get}
use Rattle.std.specs.List.{range_with_len}
use Rattle.std.specs.Option.{option_and_then}
use Rattle.design_model.specs.Netlist.{Netlist}
use Rattle.design_model.specs.declared.design.CellKind.{CellKind}
use Rattle.design_model.specs.declared.design.Inst.{Inst}
use Rattle.row_model.specs.declared.rows.Seat.{Seat}

-- the kind of the instance with this number, if there is one
abbrev pub kind_of : Netlist → ℕ → Option CellKind
kind_of d instance = option_and_then (λ (i : Inst). slice_get d.kinds i.kind) (slice_get d.instances instance)

-- the width of a kind in columns, or 0 where there is no kind
abbrev pub width_of : Option CellKind → ℕ
width_of None = 0
width_of (Some kind) = kind.columns

-- the width of an instance in columns
abbrev pub columns_of : Netlist → ℕ → ℕ
columns_of d instance = width_of (kind_of d instance)

-- the height of a kind in units, or 0 where there is no kind
abbrev pub height_of : Option CellKind → ℕ
height_of None = 0
height_of (Some kind) = kind.height

-- the height of an instance in units
abbrev pub cell_height : Netlist → ℕ → ℕ
cell_height d instance = height_of (kind_of d instance)

-- the width of seats side by side in columns
abbrev pub row_width : Netlist → List Seat → ℕ
row_width d seats = sum (map (λ (s : Seat). columns_of d s.instance) seats)

-- the width of all instances of a design in columns
unfoldable pub all_columns : Netlist → ℕ
all_columns d = sum (map (columns_of d) (range_with_len 0 (length d.instances)))
