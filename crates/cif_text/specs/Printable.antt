-- the commands whose printed text reads as they are
use Rattle.std.specs.Prelude.{ℕ, ◌≤◌, ℤ, pos, negsuc, ◌≤ℤ◌}
use Rattle.geom_core.specs.declared.corner.Corner.{Corner}
use Rattle.limits.specs.declared.TheConstants.{MOST_NUMBER}
use Rattle.cif_text.specs.Numbers.{greatest}

-- a number that can be read
pub record IsCifNumber (z : ℤ) : Type 0 where
  pub low : negsuc 999999999999 ≤ℤ z
  pub high : z ≤ℤ pos MOST_NUMBER

-- a length or a width that can be read
pub record IsSize (z : ℤ) : Type 0 where
  pub low : pos 1 ≤ℤ z
  pub high : z ≤ℤ pos MOST_NUMBER

-- a point that can be read
pub record IsNearCorner (c : Corner) : Type 0 where
  pub x : IsCifNumber c.x
  pub y : IsCifNumber c.y

-- a number without a sign that can be read
pub record IsNatural (n : ℕ) : Type 0 where
  pub high : n ≤ greatest

-- a part of a scale that can be read
pub record IsPart (n : ℕ) : Type 0 where
  pub low : 1 ≤ n
  pub high : n ≤ greatest
