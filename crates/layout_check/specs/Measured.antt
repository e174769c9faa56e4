-- layouts that can be checked
use Rattle.std.specs.Prelude.{ℕ, ◌+◌, ◌<◌, ◌≤◌, ◌^◌, length, All}
use Rattle.geom_core.specs.Reach.{IsInReach, IsShapeInReach}
use Rattle.geom_core.specs.declared.layout.Cell.{Cell}
use Rattle.geom_core.specs.declared.layout.Layout.{Layout}

-- a cell whose shapes are among so many, with a turn of at most three quarters and an offset within 10^15 half centimicrons
pub record IsCellAmong (shapes : ℕ) (c : Cell) : Type 0 where
  pub last : c.first + c.count ≤ shapes
  pub quarters : c.turn.quarters < 4
  pub across : IsInReach c.turn.dx
  pub up : IsInReach c.turn.dy

-- a layout of fewer than 2^32 cells and shapes, whose cells' shapes are among its shapes, and all whose lengths are within 10^15 half centimicrons
pub record IsMeasured (l : Layout) : Type 0 where
  pub few_cells : length l.cells < 2 ^ 32
  pub few_shapes : length l.shapes < 2 ^ 32
  pub cells : All (IsCellAmong (length l.shapes)) l.cells
  pub shapes : All IsShapeInReach l.shapes
