-- layouts whose shapes are merged
use Rattle.std.specs.Prelude.{ℕ, ◌+◌, ◌-◌, List, [], ◌∷◌, ◌++◌, drop, take, length}
use Rattle.std.specs.List.{flat_map}
use Rattle.geom_core.specs.declared.layout.Cell.{Cell}
use Rattle.geom_core.specs.declared.layout.Layout.{Layout}
use Rattle.geom_core.specs.declared.layout.Shape.{Shape}
use Rattle.tech_rules.specs.Rules.{RuleValues}
use Rattle.design_model.specs.Netlist.{Netlist}
use Rattle.layout_merge.specs.Areas.{merged_shapes}
use Rattle.layout_merge.specs.Drawn.{drawn, known_cells}

-- cells that have these shapes, one after another, the first of which has this number
abbrev pub placed : (Cell → List Shape) → ℕ → List Cell → List Cell
placed shapes n [] = []
placed shapes n (c ∷ cs) = record c { first = n; count = length (shapes c) } ∷ placed shapes (n + length (shapes c)) cs

-- the shapes from a number on that no cell has, where each cell has its shapes behind those of the one before it
abbrev pub outside : ℕ → List Cell → List Shape → List Shape
outside n [] shapes = drop n shapes
outside n (c ∷ cs) shapes = take (c.first - n) (drop n shapes) ++ outside (c.first + c.count) cs shapes

-- the layout of the same areas: its cells are those of the design, each with the shapes of its kind's drawing where it covers the same, and behind them stands, merged, what lies outside of cells
unfoldable pub merged_layout : RuleValues → Netlist → Layout → Layout
merged_layout r d l = record {
  cells = placed (drawn r d l) 0 (known_cells d l);
  shapes = flat_map (drawn r d l) (known_cells d l) ++ merged_shapes r (outside 0 (known_cells d l) l.shapes);
}
