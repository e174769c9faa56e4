-- blocks of cells, filled blocks, and those of them that lie in no other
use Rattle.std.specs.Prelude.{ℕ, ◌+◌, ◌-◌, ◌<◌, ◌≤◌, ◌&&◌, ◌||◌, not, Bool, nat_le, List, map, filter}
use Rattle.std.specs.List.{flat_map, list_all, range_with_len}

-- a block, by the numbers of the lines on which its sides lie
pub record Block : Type 0 where
  pub low : ℕ
  pub left : ℕ
  pub high : ℕ
  pub right : ℕ

-- a block of so many strips of so many cells
pub record IsBlock (strips columns : ℕ) (b : Block) : Type 0 where
  pub wide : b.left < b.right
  pub tall : b.low < b.high
  pub across : b.right ≤ columns
  pub up : b.high ≤ strips

-- the numbers from one up to another, which is left out
abbrev pub numbers : ℕ → ℕ → List ℕ
numbers from to = range_with_len from (to - from)

-- a block lies in another
abbrev pub lies_in : Block → Block → Bool
lies_in inner outer = nat_le outer.low inner.low && nat_le outer.left inner.left && nat_le inner.high outer.high && nat_le inner.right outer.right

-- all cells of a block are filled, where it is known which are, by strip and column
abbrev pub is_filled_block : (ℕ → ℕ → Bool) → Block → Bool
is_filled_block filled b = list_all (λ strip. list_all (filled strip) (numbers b.left b.right)) (numbers b.low b.high)

-- so many strips of so many cells
module _ (strips columns : ℕ) where
  -- all blocks, by their lower, left, upper and right sides
  abbrev pub blocks_to : ℕ → ℕ → ℕ → List Block
  blocks_to low left high = map (λ right. record { low = low; left = left; high = high; right = right }) (numbers (left + 1) (columns + 1))

  abbrev pub blocks_at : ℕ → ℕ → List Block
  blocks_at low left = flat_map (blocks_to low left) (numbers (low + 1) (strips + 1))

  abbrev pub blocks_from : ℕ → List Block
  blocks_from low = flat_map (blocks_at low) (numbers 0 columns)

  abbrev pub blocks : List Block
  blocks = flat_map blocks_from (numbers 0 strips)

-- a filled block that lies in no other filled block
abbrev pub is_maximal : (ℕ → ℕ → Bool) → ℕ → ℕ → Block → Bool
is_maximal filled strips columns b =
    is_filled_block filled b
    && list_all (λ other. not (is_filled_block filled other && lies_in b other) || lies_in other b) (blocks strips columns)

-- these blocks, in order
abbrev pub maximal_blocks : (ℕ → ℕ → Bool) → ℕ → ℕ → List Block
maximal_blocks filled strips columns = filter (is_maximal filled strips columns) (blocks strips columns)
