-- the rows of ports
use Rattle.std.specs.Prelude.{◌≤◌, ◌<◌, ℕ, zero, suc, ◌+◌, ◌-◌, List, [], ◌∷◌, ◌++◌, ◌≡◌, length}
use Rattle.std.specs.List.{range_with_len}
use Rattle.std.specs.List.Sorted.{IsPermutation}
use Rattle.limits.specs.declared.TheConstants.{MOST_ROWS}
use Rattle.row_model.specs.Rows.{all_instances}
use Rattle.row_model.specs.Start.{seats_from}
use Rattle.row_model.specs.Stands.{row_of}
use Rattle.row_model.specs.declared.rows.Seat.{Seat}
use Rattle.port_rows.specs.declared.ported.Ported.{Ported}

-- how many instances of a design are no ports
abbrev pub cells_in : Ported → ℕ
cells_in p = length p.design.instances - (p.south + p.north)

-- so many ports from one on side by side, upright; no row where there is none
abbrev pub port_row : ℕ → ℕ → List (List Seat)
port_row first zero = []
port_row first (suc more) = seats_from first (suc more) ∷ []

-- rows of cells between those of the ports
unfoldable pub with_port_rows : Ported → List (List Seat) → List (List Seat)
with_port_rows p rows = port_row (cells_in p) p.south ++ rows ++ port_row (cells_in p + p.south) p.north

-- one to 512 rows that hold each instance of a design once that is no port
pub record HoldCells (p : Ported) (rows : List (List Seat)) : Type 0 where
  pub ports : p.south + p.north ≤ length p.design.instances
  pub some : 0 < length rows
  pub few : length rows ≤ MOST_ROWS
  pub once : IsPermutation (range_with_len 0 (cells_in p)) (all_instances rows)

-- an instance is a port of the lower edge, or of the upper
abbrev pub IsSouth : Ported → ℕ → Type 0
IsSouth p n = (cells_in p ≤ n) × (n < cells_in p + p.south)

abbrev pub IsNorth : Ported → ℕ → Type 0
IsNorth p n = (cells_in p + p.south ≤ n) × (n < cells_in p + p.south + p.north)

-- the ports of the lower edge stand in the lowest row, and those of the upper edge in the highest
pub record HaveEdges (p : Ported) (rows : List (List Seat)) : Type 0 where
  pub south : (n : ℕ) → IsSouth p n → row_of p.design rows n ≡ 0
  pub north : (n : ℕ) → IsNorth p n → row_of p.design rows n + 1 ≡ length rows
