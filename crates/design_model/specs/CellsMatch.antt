-- the cells of a layout as the instances of a design
use Rattle.std.specs.Prelude.{◌≡◌, ℕ, List, map, drop, take, Some, Contains, slice_get}
use Rattle.std.specs.List.Sorted.{IsPermutation}
use Rattle.geom_core.specs.Moving.{moved_shape}
use Rattle.geom_core.specs.declared.layout.Cell.{Cell}
use Rattle.geom_core.specs.declared.layout.Layout.{Layout}
use Rattle.geom_core.specs.declared.layout.Shape.{Shape}
use Rattle.tech_rules.specs.Rules.{RuleValues}
use Rattle.design_model.specs.Drawing.{drawing_of}
use Rattle.design_model.specs.Netlist.{Netlist}
use Rattle.design_model.specs.declared.design.CellKind.{CellKind}
use Rattle.design_model.specs.declared.design.Inst.{Inst}

-- the shapes of a cell
abbrev pub shapes_of : Layout → Cell → List Shape
shapes_of l cell = take cell.count (drop cell.first l.shapes)

-- a cell is a copy of a kind: it has the kind's name as its symbol's, it stands upright, mirrored perhaps, and its shapes are the kind's
-- drawing under its turn
pub record IsCopyOf (r : RuleValues) (l : Layout) (kind : CellKind) (cell : Cell) : Type 0 where
  pub symbol : cell.symbol ≡ kind.name
  pub upright : cell.turn.quarters ≡ 0
  pub shapes : shapes_of l cell ≡ map (moved_shape cell.turn) (drawing_of r kind)

abbrev pub cell_names : Layout → List (List ℕ)
cell_names l = map (λ (c : Cell). c.name) l.cells

abbrev pub instance_names : Netlist → List (List ℕ)
instance_names d = map (λ (i : Inst). i.name) d.instances

-- the product's own rule: the cells have the names of the instances, each once, and each is a copy of its instance's kind
pub record CellsMatch (r : RuleValues) (d : Netlist) (l : Layout) : Type 0 where
  pub names : IsPermutation (instance_names d) (cell_names l)
  pub copies : (cell : Cell) (i : Inst) (kind : CellKind) → Contains l.cells cell → Contains d.instances i → cell.name ≡ i.name
      → slice_get d.kinds i.kind ≡ Some kind → IsCopyOf r l kind cell
