-- numbers, rectangles and shapes within reach
use Rattle.std.specs.Prelude.{ℤ, pos, negsuc, ◌≤ℤ◌}
use Rattle.geom_core.specs.Extent.{Extent}
use Rattle.geom_core.specs.declared.layout.Shape.{Shape}

-- a number of magnitude at most 10^15
pub record IsInReach (z : ℤ) : Type 0 where
  pub low : negsuc 999999999999999 ≤ℤ z
  pub high : z ≤ℤ pos 1000000000000000

-- a rectangle whose sides lie within 10^15 half centimicrons
pub record IsExtentInReach (e : Extent) : Type 0 where
  pub x0 : IsInReach e.x0
  pub y0 : IsInReach e.y0
  pub x1 : IsInReach e.x1
  pub y1 : IsInReach e.y1

-- a shape whose rectangle does
abbrev pub IsShapeInReach : Shape → Type 0
IsShapeInReach s = IsExtentInReach s.rect

-- a rectangle whose sides lie within 10^16 half centimicrons
pub record IsExtentInWideReach (e : Extent) : Type 0 where
  pub left : negsuc 9999999999999999 ≤ℤ e.x0
  pub low : negsuc 9999999999999999 ≤ℤ e.y0
  pub right : e.x1 ≤ℤ pos 10000000000000000
  pub high : e.y1 ≤ℤ pos 10000000000000000
