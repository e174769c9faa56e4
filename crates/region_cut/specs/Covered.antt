-- the lines of rectangles, the cells between them, and which of these they cover
use Rattle.std.specs.Prelude.{ℕ, ◌+◌, ◌&&◌, ◌<ℤ◌, Bool, ℤ, int_le, List, [], ◌∷◌}
use Rattle.std.specs.List.{flat_map, list_any}
use Rattle.geom_core.specs.Extent.{Extent}
use Rattle.region_cut.specs.Grids.{Grid, ascending, line}

-- a rectangle that has an area
pub record HasArea (r : Extent) : Type 0 where
  pub across : r.x0 <ℤ r.x1
  pub up : r.y0 <ℤ r.y1

-- the lines of rectangles: the different x and the different y of their sides
abbrev pub sides_across : List Extent → List ℤ
sides_across rects = ascending (flat_map (λ r. r.x0 ∷ (r.x1 ∷ [])) rects)

abbrev pub sides_up : List Extent → List ℤ
sides_up rects = ascending (flat_map (λ r. r.y0 ∷ (r.y1 ∷ [])) rects)

-- a rectangle spans all from one height to another
abbrev pub reaches : ℤ → ℤ → Extent → Bool
reaches low high r = int_le r.y0 low && int_le high r.y1

-- and all from one place across to another
abbrev pub spreads : ℤ → ℤ → Extent → Bool
spreads left right r = int_le r.x0 left && int_le right r.x1

-- so it has a cell with these sides in it
abbrev pub covers : ℤ → ℤ → ℤ → ℤ → Extent → Bool
covers left right low high r = reaches low high r && spreads left right r

-- a cell is covered where one of the rectangles has it in it
unfoldable pub is_covered : List Extent → ℕ → ℕ → Bool
is_covered rects strip column =
    list_any (covers (line (sides_across rects) column) (line (sides_across rects) (column + 1)) (line (sides_up rects) strip) (line (sides_up rects) (strip + 1))) rects

-- the grid of rectangles
abbrev pub grid_over : List Extent → Grid
grid_over rects = record { across = sides_across rects; up = sides_up rects; filled = is_covered rects }
