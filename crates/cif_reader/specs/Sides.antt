-- rectangles that are small, proper or near
use Rattle.std.specs.Prelude.{◌<ℤ◌, ℤ, List, Option, Some, None, Result, Ok, Err}
use Rattle.std.specs.List.{AllByRecursion}
use Rattle.geom_core.specs.declared.layout.Shape.{Shape}
use Rattle.geom_core.specs.Extent.{Extent}
use Rattle.geom_core.specs.Turning.{Turning}
use Rattle.cif_reader.specs.Limits.{first_far}
use Rattle.cif_reader.specs.Within.{IsNotFar}

-- a rectangle whose right side is right of the left one, and whose upper side is above the lower one
pub record IsProper (e : Extent) : Type 0 where
  pub across : e.x0 <ℤ e.x1
  pub up : e.y0 <ℤ e.y1

abbrev pub AreProper : List Shape → Type 0
AreProper shapes = AllByRecursion (λ s. IsProper s.rect) shapes

-- a rectangle of which no side is too far
pub record AreSidesNear (e : Extent) : Type 0 where
  pub x0 : IsNotFar e.x0
  pub y0 : IsNotFar e.y0
  pub x1 : IsNotFar e.x1
  pub y1 : IsNotFar e.y1

-- a turn whose offset is not too far
pub record IsNearTurn (t : Turning) : Type 0 where
  pub across : IsNotFar t.dx
  pub up : IsNotFar t.dy

abbrev pub ok_unless : {A : Type 0} → Option ℤ → A → Result A ℤ
ok_unless (Some z) x = Err z
ok_unless None x = Ok x

-- a value with these numbers, or the first of them that is too far
abbrev pub unless_far : {A : Type 0} → List ℤ → A → Result A ℤ
unless_far zs x = ok_unless (first_far zs) x
