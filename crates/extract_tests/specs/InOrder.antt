-- cells in the order of instances
use Rattle.std.specs.Prelude.{◌≡◌, ℕ, length, Some, slice_get}
use Rattle.geom_core.specs.declared.layout.Cell.{Cell}
use Rattle.geom_core.specs.declared.layout.Layout.{Layout}
use Rattle.tech_rules.specs.Rules.{RuleValues}
use Rattle.design_model.specs.CellsMatch.{IsCopyOf}
use Rattle.design_model.specs.Netlist.{Netlist}
use Rattle.design_model.specs.declared.design.CellKind.{CellKind}
use Rattle.design_model.specs.declared.design.Inst.{Inst}

-- a cell has the name of an instance, and is a copy of its kind
pub record IsCellOf (r : RuleValues) (d : Netlist) (l : Layout) (i : Inst) (c : Cell) : Type 0 where
  pub named : c.name ≡ i.name
  pub copy : (kind : CellKind) → slice_get d.kinds i.kind ≡ Some kind → IsCopyOf r l kind c

-- the cells are those of the instances, in their order
pub record AreInOrder (r : RuleValues) (d : Netlist) (l : Layout) : Type 0 where
  pub long : length l.cells ≡ length d.instances
  pub each : (k : ℕ) (i : Inst) (c : Cell) → slice_get d.instances k ≡ Some i → slice_get l.cells k ≡ Some c → IsCellOf r d l i c
