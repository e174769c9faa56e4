-- layouts that can be merged
use Rattle.std.specs.Prelude.{ℤ, pos, negsuc, ◌≤ℤ◌, All}
use Rattle.geom_core.specs.declared.layout.Cell.{Cell}
use Rattle.geom_core.specs.declared.layout.Layout.{Layout}
use Rattle.layout_check.specs.Measured.{IsMeasured}

-- a number of magnitude at most 10^14
pub record IsNear (z : ℤ) : Type 0 where
  pub low : negsuc 99999999999999 ≤ℤ z
  pub high : z ≤ℤ pos 100000000000000

-- a cell whose offset is within 10^14 half centimicrons
pub record IsCellNear (c : Cell) : Type 0 where
  pub across : IsNear c.turn.dx
  pub up : IsNear c.turn.dy

-- a layout that can be checked, and whose cells stand so near that a drawing of a kind is within reach there
pub record IsMergeable (l : Layout) : Type 0 where
  pub measured : IsMeasured l
  pub near : All IsCellNear l.cells
