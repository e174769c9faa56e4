-- the lines of a closed path, the cells between them, and which of these are filled
use Rattle.std.specs.Prelude.{ℕ, ◌+◌, ◌%◌, ◌==◌, ◌&&◌, Bool, ℤ, int_le, List, map}
use Rattle.std.specs.Int.{int_min, int_max}
use Rattle.std.specs.List.{count_by}
use Rattle.std.specs.Ordering.{int_eq}
use Rattle.geom_core.specs.declared.corner.Corner.{Corner}
use Rattle.region_cut.specs.Grids.{Grid, ascending, line}
use Rattle.region_cut.specs.Steps.{Step, closed_steps}

-- the lines of a path: the different x and the different y of its corners
abbrev pub lines_across : List Corner → List ℤ
lines_across path = ascending (map (λ c. c.x) path)

abbrev pub lines_up : List Corner → List ℤ
lines_up path = ascending (map (λ c. c.y) path)

-- a vertical edge that spans all from one height to another
abbrev pub spans : ℤ → ℤ → Step → Bool
spans low high s = int_eq s.from.x s.to.x && int_le (int_min s.from.y s.to.y) low && int_le high (int_max s.from.y s.to.y)

-- such an edge that stands at or left of a place
abbrev pub stands_left : ℤ → ℤ → ℤ → Step → Bool
stands_left place low high s = spans low high s && int_le s.from.x place

-- a cell is filled where an odd number of such edges stands at or left of its left side
unfoldable pub is_filled : List Corner → ℕ → ℕ → Bool
is_filled path strip column =
    count_by (stands_left (line (lines_across path) column) (line (lines_up path) strip) (line (lines_up path) (strip + 1))) (closed_steps path) % 2 == 1

-- the grid of a path
abbrev pub grid_of : List Corner → Grid
grid_of path = record { across = lines_across path; up = lines_up path; filled = is_filled path }
