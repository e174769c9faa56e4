-- the rectangles of a wire, and the points near its path
use Rattle.std.specs.Prelude.{ℤ, ◌+ℤ◌, ◌-ℤ◌, ◌≤ℤ◌, ◌↔◌, List, Contains, map}
use Rattle.std.specs.Int.{int_min, int_max}
use Rattle.geom_core.specs.Extent.{Extent}
use Rattle.geom_core.specs.Reach.{IsInReach}
use Rattle.geom_core.specs.declared.corner.Corner.{Corner}
use Rattle.region_cut.specs.Steps.{Step, wire_steps}

-- the rectangle of a step: it reaches past both points by half a width on every side
abbrev pub stroke : ℤ → Step → Extent
stroke half s = record {
  x0 = int_min s.from.x s.to.x -ℤ half;
  y0 = int_min s.from.y s.to.y -ℤ half;
  x1 = int_max s.from.x s.to.x +ℤ half;
  y1 = int_max s.from.y s.to.y +ℤ half;
}

-- the rectangles of a wire, step by step
abbrev pub strokes : ℤ → List Corner → List Extent
strokes half path = map (stroke half) (wire_steps path)

-- a corner whose coordinates are of magnitude at most 10^15
pub record IsCornerInReach (c : Corner) : Type 0 where
  pub across : IsInReach c.x
  pub up : IsInReach c.y

-- a point of a rectangle, its sides included
pub record IsIn (x y : ℤ) (e : Extent) : Type 0 where
  pub left : e.x0 ≤ℤ x
  pub low : e.y0 ≤ℤ y
  pub right : x ≤ℤ e.x1
  pub high : y ≤ℤ e.y1

-- a point between those of a step: of a step along an axis, these are its points
pub record IsOnStep (x y : ℤ) (s : Step) : Type 0 where
  pub left : int_min s.from.x s.to.x ≤ℤ x
  pub low : int_min s.from.y s.to.y ≤ℤ y
  pub right : x ≤ℤ int_max s.from.x s.to.x
  pub high : y ≤ℤ int_max s.from.y s.to.y

-- two numbers are at most so far apart
pub record AreWithin (far a b : ℤ) : Type 0 where
  pub under : (a -ℤ far) ≤ℤ b
  pub over : b ≤ℤ (a +ℤ far)

-- a point within half a width of some point of a step, in both x and y
abbrev pub IsNearStep : ℤ → ℤ → ℤ → Step → Type 0
IsNearStep half x y s = (p q : ℤ) × IsOnStep p q s × AreWithin half p x × AreWithin half q y

-- rectangles cover just the points within half a width of a wire's path
abbrev pub CoverPath : ℤ → List Corner → List Extent → Type 0
CoverPath half path rects =
    (x y : ℤ) → ((r : Extent) × Contains rects r × IsIn x y r) ↔ ((s : Step) × Contains (wire_steps path) s × IsNearStep half x y s)
