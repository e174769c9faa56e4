-- the drawings of kinds, and cells with their shapes
use Rattle.std.specs.Prelude.{◌≡◌, ◌≤ℤ◌, ℕ, ◌==◌, ℤ, pos, negsuc, List, map, length, All, Bool, ◌&&◌}
use Rattle.std.specs.Str.{bytes_eq}
use Rattle.geom_core.specs.Extent.{Extent}
use Rattle.geom_core.specs.Moving.{moved_shape}
use Rattle.geom_core.specs.Reach.{IsShapeInReach}
use Rattle.geom_core.specs.declared.layout.Cell.{Cell}
use Rattle.geom_core.specs.declared.layout.Layout.{Layout}
use Rattle.geom_core.specs.declared.layout.Shape.{Shape}
use Rattle.tech_rules.specs.Rules.{RuleValues}
use Rattle.design_model.specs.CellsMatch.{shapes_of}
use Rattle.design_model.specs.Drawing.{drawing_of}
use Rattle.design_model.specs.Netlist.{Netlist}
use Rattle.layout_check.specs.CellFaults.{are_shapes}

-- the drawings of the kinds of a design
abbrev pub drawings_of : RuleValues → Netlist → List (List Shape)
drawings_of r d = map (drawing_of r) d.kinds

-- a number of magnitude at most 3 * 10^14, as drawings have them
pub record IsLow (z : ℤ) : Type 0 where
  pub low : negsuc 299999999999999 ≤ℤ z
  pub high : z ≤ℤ pos 300000000000000

-- a rectangle with such sides
pub record IsExtentLow (e : Extent) : Type 0 where
  pub x0 : IsLow e.x0
  pub y0 : IsLow e.y0
  pub x1 : IsLow e.x1
  pub y1 : IsLow e.y1

abbrev pub IsShapeLow : Shape → Type 0
IsShapeLow s = IsExtentLow s.rect

-- a list of shapes within reach for each kind of a design
pub record AreForKinds (d : Netlist) (drawings : List (List Shape)) : Type 0 where
  pub each : length drawings ≡ length d.kinds
  pub reach : All (λ (drawing : List Shape). All IsShapeInReach drawing) drawings

-- whether a cell is a copy of the symbol of this name, upright, mirrored perhaps, with these shapes under its turn as its own
abbrev pub is_copy_with : Layout → List ℕ → List Shape → Cell → Bool
is_copy_with l name drawing cell =
    (bytes_eq cell.symbol name && cell.turn.quarters == 0) && are_shapes (shapes_of l cell) (map (moved_shape cell.turn) drawing)
