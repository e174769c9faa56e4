-- where an instance stands, and tables of that
use Rattle.std.specs.Prelude.{ℕ, ◌<◌, ◌≤◌, Bool}
use Rattle.limits.specs.declared.TheConstants.{MOST_PLACED_ROWS}

-- where an instance stands: its row, whether it is mirrored, its place among the seats of the row, and the first of its columns there
pub record Spot : Type 0 where
  pub row : ℕ
  pub mirror : Bool
  pub place : ℕ
  pub left : ℕ

-- in one of 514 rows of at most 20,000 cells, each of at most 100,000,000 columns
pub record IsSpot (s : Spot) : Type 0 where
  pub row : s.row < MOST_PLACED_ROWS
  pub left : s.left ≤ 2000000000000
