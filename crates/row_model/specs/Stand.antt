-- where instances and pins stand
use Rattle.std.specs.Prelude.{ℕ, Bool}

-- where an instance stands: its row, the first of its columns there, and whether it is mirrored
pub record Stand : Type 0 where
  pub row : ℕ
  pub left : ℕ
  pub mirror : Bool
