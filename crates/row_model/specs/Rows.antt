-- rows of seats, and rows that hold each instance of a design once
use Rattle.std.specs.Prelude.{◌<◌, ◌≤◌, ℕ, List, length, map}
use Rattle.std.specs.List.{flat_map, range_with_len, IsDistinct}
use Rattle.std.specs.List.Sorted.{IsPermutation}
use Rattle.std.specs.Prelude.{nat_eq}
use Rattle.design_model.specs.Netlist.{Netlist}
use Rattle.row_model.specs.declared.rows.Seat.{Seat}
use Rattle.limits.specs.declared.TheConstants.{MOST_PLACED_ROWS}

-- the instances of seats, from left to right
abbrev pub instances_in : List Seat → List ℕ
instances_in seats = map (λ (s : Seat). s.instance) seats

-- the instances of rows, row by row from the lowest
abbrev pub all_instances : List (List Seat) → List ℕ
all_instances rows = flat_map instances_in rows

-- no instance stands twice
abbrev pub AreRows : List (List Seat) → Type 0
AreRows rows = IsDistinct nat_eq (all_instances rows)

-- one to 514 rows that hold each instance of a design once
pub record ArePlaced (d : Netlist) (rows : List (List Seat)) : Type 0 where
  pub some : 0 < length rows
  pub few : length rows ≤ MOST_PLACED_ROWS
  pub once : IsPermutation (range_with_len 0 (length d.instances)) (all_instances rows)
