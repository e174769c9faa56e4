-- the drawing of a cell kind
use Rattle.std.specs.Prelude.{ℕ, pos, ◌+◌, ◌*◌, ◌-◌, List, ◌∷◌, map, Bool, if◌then◌else◌}
use Rattle.geom_core.specs.Extent.{Extent}
use Rattle.geom_core.specs.declared.layout.Shape.{Shape}
use Rattle.tech_rules.specs.Rules.{RuleValues}
use Rattle.design_model.specs.declared.design.Position.{Position}
use Rattle.design_model.specs.declared.design.CellKind.{CellKind}

-- a rectangle in half centimicrons, given in half units
abbrev pub extent_of : ℕ → ℕ → ℕ → ℕ → ℕ → Extent
extent_of centi x0 y0 x1 y1 =
    record { x0 = pos (x0 * centi); y0 = pos (y0 * centi); x1 = pos (x1 * centi); y1 = pos (y1 * centi) }

-- the middle of a column in half units
abbrev pub middle_of : ℕ → ℕ → ℕ
middle_of pitch column = 2 * (column * pitch) + pitch

-- the outline of a kind, from its lower left corner on
unfoldable pub outline_shape : RuleValues → CellKind → Shape
outline_shape rules kind = record {
  layer = rules.outline.layer;
  rect = extent_of rules.grid.centi 0 0 (2 * (kind.columns * rules.grid.column)) (2 * kind.height);
}

-- the lower and the upper end of a pin of this length, in half units
abbrev pub pin_low : ℕ → ℕ → Bool → ℕ
pin_low pin height top = if top then 2 * (height - pin) else 0

abbrev pub pin_high : ℕ → ℕ → Bool → ℕ
pin_high pin height top = if top then 2 * height else 2 * pin

-- a pin of a kind of this height: of the vertical width, in the middle of its column, reaching inward from its edge
unfoldable pub position_shape : RuleValues → ℕ → Position → Shape
position_shape rules height p = record {
  layer = rules.vertical.layer;
  rect = extent_of rules.grid.centi
      (middle_of rules.grid.column p.column - rules.vertical.width) (pin_low rules.grid.pin height p.top)
      (middle_of rules.grid.column p.column + rules.vertical.width) (pin_high rules.grid.pin height p.top);
}

-- the drawing of a kind: its outline, and then its pins in order
abbrev pub drawing_of : RuleValues → CellKind → List Shape
drawing_of rules kind = outline_shape rules kind ∷ map (position_shape rules kind.height) kind.positions
