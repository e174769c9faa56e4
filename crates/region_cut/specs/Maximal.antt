-- the rectangles of a grid, and of a polygon
use Rattle.std.specs.Prelude.{◌≡◌, ◌<◌, ◌↔◌, ℕ, List, Contains, filter, map, true}
use Rattle.std.specs.List.{flat_map}
use Rattle.geom_core.specs.Extent.{Extent}
use Rattle.geom_core.specs.Rectangles.{Encloses}
use Rattle.geom_core.specs.declared.corner.Corner.{Corner}
use Rattle.region_cut.specs.Blocks.{Block, IsBlock, blocks_at, is_filled_block, is_maximal, numbers}
use Rattle.region_cut.specs.Cells.{grid_of}
use Rattle.region_cut.specs.Grids.{Grid, blocks_of, cell, columns, extent_of, strips}

-- the maximal blocks of a path, as rectangles, ordered by their lower, left, upper and right sides
unfoldable pub maximal : List Corner → List Extent
maximal path = blocks_of (grid_of path)

-- rectangles in which every filled cell of a grid lies, and no other, and every filled block lies in one of them
pub record Fill (g : Grid) (rects : List Extent) : Type 0 where
  pub cells : (strip column : ℕ) → strip < strips g → column < columns g
      → ((r : Extent) × Contains rects r × Encloses r (extent_of g (cell strip column))) ↔ (g.filled strip column ≡ true)
  pub blocks : (b : Block) → IsBlock (strips g) (columns g) b → is_filled_block g.filled b ≡ true
      → (r : Extent) × Contains rects r × Encloses r (extent_of g b)

-- the maximal blocks of a grid with one lower left corner, as rectangles, and those with their lower side on one line and their left
-- side on a line from one on
unfoldable pub corner_rects : Grid → ℕ → ℕ → List Extent
corner_rects g low left = map (extent_of g) (filter (is_maximal g.filled (strips g) (columns g)) (blocks_at (strips g) (columns g) low left))

abbrev pub strip_rects : Grid → ℕ → ℕ → List Extent
strip_rects g low from = flat_map (corner_rects g low) (numbers from (columns g))

-- those with their lower side on a line from one on
abbrev pub rects_from : Grid → ℕ → List Extent
rects_from g from = flat_map (λ low. strip_rects g low 0) (numbers from (strips g))
