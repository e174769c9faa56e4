-- rectangles, as their four sides, and what two of them have to do with each other
use Rattle.std.specs.Prelude.{ℤ}

-- a rectangle as its four sides: left, lower, right and upper
pub record Extent : Type 0 where
  pub x0 : ℤ
  pub y0 : ℤ
  pub x1 : ℤ
  pub y1 : ℤ
