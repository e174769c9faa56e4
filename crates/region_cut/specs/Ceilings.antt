-- how far up columns stay filled, and what lies under them
use Rattle.std.specs.Prelude.{◌≡◌, ◌<◌, ◌≤◌, ℕ, zero, suc, Bool, true, false, List, Option, None, Some, length, slice_index, slice_index_or}

-- from one strip up to another all cells of a column are filled, and not the next
pub record IsCeiling (filled : ℕ → ℕ → Bool) (strips low column top : ℕ) : Type 0 where
  pub from : low ≤ top
  pub to : top ≤ strips
  pub cells : (strip : ℕ) → low ≤ strip → strip < top → filled strip column ≡ true
  pub next : top < strips → filled top column ≡ false

-- whether the cell of a column under a strip is filled: none is under the lowest
abbrev pub is_filled_under : (ℕ → ℕ → Bool) → ℕ → ℕ → Bool
is_filled_under filled zero column = false
is_filled_under filled (suc strip) column = filled strip column

-- such numbers of the columns
pub record AreCeilings (filled : ℕ → ℕ → Bool) (strips columns low : ℕ) (tops : List ℕ) : Type 0 where
  pub long : length tops ≡ columns
  pub each : (column : ℕ) → column < columns → IsCeiling filled strips low column (slice_index tops column)

-- which cells under a strip are filled
pub record AreUnder (filled : ℕ → ℕ → Bool) (columns low : ℕ) (cells : List Bool) : Type 0 where
  pub long : length cells ≡ columns
  pub each : (column : ℕ) → column < columns → slice_index_or cells column false ≡ is_filled_under filled low column

-- a column from `left` on, or the end: of the columns from `left` on up to it none is filled less far up, nor is one from it on up to one
-- whose cell under the strip is not filled
pub record IsHeld (filled : ℕ → ℕ → Bool) (columns low : ℕ) (tops : List ℕ) (left column : ℕ) : Type 0 where
  pub from : left ≤ column
  pub over : (other : ℕ) → left ≤ other → other < column → slice_index tops column ≤ slice_index tops other
  pub empty : (other : ℕ) × (left ≤ other) × (other < columns) × (is_filled_under filled low other ≡ false)
      × ((between : ℕ) → column ≤ between → between ≤ other → slice_index tops column ≤ slice_index tops between)

-- a column that is filled least far up of those from `left` on up to the first whose cell under the strip is not filled
pub record IsLeast (filled : ℕ → ℕ → Bool) (columns low : ℕ) (tops : List ℕ) (left column : ℕ) : Type 0 where
  pub within : column < columns
  pub held : IsHeld filled columns low tops left column
  pub full : (other : ℕ) → left ≤ other → other < column → is_filled_under filled low other ≡ true

-- such a column, or none where all cells under the columns from `left` on are filled
abbrev pub IsLowest : (ℕ → ℕ → Bool) → ℕ → ℕ → List ℕ → ℕ → Option ℕ → Type 0
IsLowest filled columns low tops left None = (column : ℕ) → left ≤ column → column < columns → is_filled_under filled low column ≡ true
IsLowest filled columns low tops left (Some column) = IsLeast filled columns low tops left column
