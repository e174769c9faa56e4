-- columns that are filled less far up than one before them
use Rattle.std.specs.Prelude.{◌≡◌, ◌<◌, ◌≤◌, ℕ, List, length, slice_index}

-- the first column behind one that is filled less far up than it, or the end
pub record IsFall (tops : List ℕ) (column next : ℕ) : Type 0 where
  pub wide : column < next
  pub within : next ≤ length tops
  pub over : (other : ℕ) → column ≤ other → other < next → slice_index tops column ≤ slice_index tops other
  pub stops : next < length tops → slice_index tops next < slice_index tops column

-- such columns of all columns from one on
pub record AreFalls (tops : List ℕ) (from : ℕ) (falls : List ℕ) : Type 0 where
  pub long : length falls ≡ length tops
  pub each : (column : ℕ) → from ≤ column → column < length tops → IsFall tops column (slice_index falls column)
