-- what every layout keeps that commands give
use Rattle.std.specs.Prelude.{ℕ, ◌+◌, ◌≤◌, ◌<◌, ℤ, nat_abs, length}
use Rattle.std.specs.List.{AllByRecursion}
use Rattle.geom_core.specs.declared.layout.Shape.{Shape}
use Rattle.geom_core.specs.declared.layout.Cell.{Cell}
use Rattle.geom_core.specs.declared.layout.Layout.{Layout}
use Rattle.cif_reader.specs.Limits.{farthest, most_shapes}

abbrev pub IsNotFar : ℤ → Type 0
IsNotFar z = nat_abs z ≤ farthest

-- a shape within the reader's limits
pub record IsShapeWithin (s : Shape) : Type 0 where
  pub x0 : IsNotFar s.rect.x0
  pub y0 : IsNotFar s.rect.y0
  pub x1 : IsNotFar s.rect.x1
  pub y1 : IsNotFar s.rect.y1

-- a cell whose shapes are among so many, with a turn within the limits
pub record IsCellWithin (shapes : ℕ) (c : Cell) : Type 0 where
  pub last : c.first + c.count ≤ shapes
  pub quarters : c.turn.quarters < 4
  pub across : IsNotFar c.turn.dx
  pub up : IsNotFar c.turn.dy

-- a layout within the reader's limits, with at most so many cells
pub record IsLayoutWithin (most : ℕ) (l : Layout) : Type 0 where
  pub few : length l.shapes ≤ most_shapes
  pub shapes : AllByRecursion IsShapeWithin l.shapes
  pub cells : AllByRecursion (IsCellWithin (length l.shapes)) l.cells
  pub few_cells : length l.cells ≤ most
