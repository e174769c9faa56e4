-- the widths of rows, and how far they are from their target
use Rattle.std.specs.Prelude.{ℕ, List, Option, None, Some}

-- the widths of rows, and the width that each should have
pub record Lengths : Type 0 where
  pub widths : List ℕ
  pub target : ℕ

-- the width of a row, 0 where there is none
abbrev pub width_in : Option ℕ → ℕ
width_in None = 0
width_in (Some width) = width
