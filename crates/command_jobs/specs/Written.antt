-- when a text is a good layout of a design, with its ports at the edges
use Rattle.std.specs.Prelude.{◌≡◌, ℕ, List, Some, Contains, slice_get}
use Rattle.geom_core.specs.declared.layout.Cell.{Cell}
use Rattle.geom_core.specs.declared.layout.Layout.{Layout}
use Rattle.tech_rules.specs.Rules.{RuleValues}
use Rattle.design_model.specs.Good.{Good}
use Rattle.design_model.specs.Netlist.{Netlist}
use Rattle.design_model.specs.declared.design.Inst.{Inst}
use Rattle.channel_stack.specs.RowEdges.{IsInHighestRow, IsInLowestRow}
use Rattle.port_rows.specs.PortRows.{IsNorth, IsSouth}
use Rattle.port_rows.specs.declared.ported.Ported.{Ported}
use Rattle.cif_text.specs.ReadsAs.{ReadsAs}

-- a text is a good layout of a design: it reads as commands of CIF that mean a layout, and that is good for the design and the rules
pub record IsGoodText (rules : RuleValues) (d : Netlist) (text : List ℕ) : Type 0 where
  pub layout : Layout
  pub reads : ReadsAs text layout
  pub good : Good rules d layout

-- the cell of each port stands in a row at an edge: that of a port of the lower edge in the lowest row, and that of one of the upper edge in the highest
pub record StandAtEdges (rules : RuleValues) (p : Ported) (l : Layout) : Type 0 where
  pub south : (n : ℕ) (i : Inst) (cell : Cell) → IsSouth p n → slice_get p.design.instances n ≡ Some i → Contains l.cells cell → cell.name ≡ i.name
      → IsInLowestRow rules l cell
  pub north : (n : ℕ) (i : Inst) (cell : Cell) → IsNorth p n → slice_get p.design.instances n ≡ Some i → Contains l.cells cell → cell.name ≡ i.name
      → IsInHighestRow rules l cell

-- a text is a good layout of a design with its ports, which stand at the edges
pub record IsPortedText (rules : RuleValues) (p : Ported) (text : List ℕ) : Type 0 where
  pub is : IsGoodText rules p.design text
  pub edges : StandAtEdges rules p is.layout
