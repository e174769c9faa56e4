-- lines across and up, and which of the cells between them are filled
use Rattle.std.specs.Prelude.{ℕ, ◌+◌, ◌-◌, Bool, ℤ, pos, List, [], fold, length, map, slice_index_or}
use Rattle.std.specs.BTreeSet.{insert_key}
use Rattle.std.specs.Ordering.{int_cmp}
use Rattle.geom_core.specs.Extent.{Extent}
use Rattle.region_cut.specs.Blocks.{Block, maximal_blocks}

-- different numbers, ascending
unfoldable pub ascending : List ℤ → List ℤ
ascending numbers = fold (insert_key int_cmp) [] numbers

-- where a line lies, by its number
abbrev pub line : List ℤ → ℕ → ℤ
line lines k = slice_index_or lines k (pos 0)

-- between two neighbouring lines across lies a column of cells, and between two neighbouring lines up a strip of them, both numbered from
-- 0 on; it is told by strip and column which cells are filled
pub record Grid : Type 0 where
  pub across : List ℤ
  pub up : List ℤ
  pub filled : ℕ → ℕ → Bool

abbrev pub columns : Grid → ℕ
columns g = length g.across - 1

abbrev pub strips : Grid → ℕ
strips g = length g.up - 1

-- the cell of a strip and a column
abbrev pub cell : ℕ → ℕ → Block
cell strip column = record { low = strip; left = column; high = strip + 1; right = column + 1 }

-- the rectangle of a block
abbrev pub extent_of : Grid → Block → Extent
extent_of g b = record { x0 = line g.across b.left; y0 = line g.up b.low; x1 = line g.across b.right; y1 = line g.up b.high }

-- the maximal blocks of a grid, as rectangles, ordered by their lower, left, upper and right sides
abbrev pub blocks_of : Grid → List Extent
blocks_of g = map (extent_of g) (maximal_blocks g.filled (strips g) (columns g))
