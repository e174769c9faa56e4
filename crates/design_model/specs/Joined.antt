-- shapes and pins that touching shapes join
use Rattle.std.specs.Prelude.{◌≡◌, ℕ, ◌+◌, List, Some, slice_get}
use Rattle.geom_core.specs.declared.layout.Cell.{Cell}
use Rattle.geom_core.specs.declared.layout.Layout.{Layout}
use Rattle.geom_core.specs.declared.layout.Shape.{Shape}
use Rattle.geom_core.specs.Rectangles.{Meet}
use Rattle.tech_rules.specs.Lengths.{IsWire}
use Rattle.tech_rules.specs.Rules.{RuleValues}
use Rattle.design_model.specs.Netlist.{Netlist}
use Rattle.design_model.specs.declared.design.CellKind.{CellKind}
use Rattle.design_model.specs.declared.design.Inst.{Inst}
use Rattle.design_model.specs.declared.design.Pin.{Pin}
use Rattle.design_model.specs.declared.design.Position.{Position}

-- shapes of these layers conduct to one another where they meet: on one layer of wires, or a cut and a wire
pub data Conducts (r : RuleValues) (a b : List ℕ) : Type 0 where
  on_one : IsWire r a → a ≡ b → Conducts r a b
  cut_to_wire : a ≡ r.cut.layer → IsWire r b → Conducts r a b
  wire_to_cut : IsWire r a → b ≡ r.cut.layer → Conducts r a b

-- the product's own rule: two shapes touch where their layers conduct and their closed rectangles meet
pub record Touch (r : RuleValues) (s t : Shape) : Type 0 where
  pub layers : Conducts r s.layer t.layer
  pub meet : Meet s.rect t.rect

-- in a cell that bears an instance's name, the shape with this number is the drawing of a position of a terminal: a cell's first shape is its
-- outline, and behind it stand its kind's positions in order
pub record Draws (d : Netlist) (l : Layout) (cell instance terminal shape : ℕ) : Type 0 where
  pub copy : Cell
  pub inst : Inst
  pub kind : CellKind
  pub place : ℕ
  pub position : Position
  pub is_cell : slice_get l.cells cell ≡ Some copy
  pub is_instance : slice_get d.instances instance ≡ Some inst
  pub named : copy.name ≡ inst.name
  pub is_kind : slice_get d.kinds inst.kind ≡ Some kind
  pub is_position : slice_get kind.positions place ≡ Some position
  pub of_terminal : position.terminal ≡ terminal
  pub number : shape ≡ copy.first + 1 + place

-- the product's own rule: two shapes are neighbours where they touch, or draw positions of one terminal in one cell
pub data Neighbours (r : RuleValues) (d : Netlist) (l : Layout) (i j : ℕ) : Type 0 where
  touching : (s t : Shape) → slice_get l.shapes i ≡ Some s → slice_get l.shapes j ≡ Some t → Touch r s t → Neighbours r d l i j
  of_one_terminal : (cell instance terminal : ℕ) → Draws d l cell instance terminal i → Draws d l cell instance terminal j → Neighbours r d l i j

-- two shapes are joined where they are the same, or a chain of neighbours leads from the one to the other
pub data Joined (r : RuleValues) (d : Netlist) (l : Layout) (j : ℕ) : ℕ → Type 0 where
  here : Joined r d l j j
  step : {i : ℕ} (k : ℕ) → Neighbours r d l i k → Joined r d l j k → Joined r d l j i

-- a shape of a pin: the drawing of a position of its terminal in the cell that bears its instance's name
pub record DrawsPin (d : Netlist) (l : Layout) (p : Pin) (shape : ℕ) : Type 0 where
  pub cell : ℕ
  pub draws : Draws d l cell p.instance p.terminal shape

-- two pins are joined where a shape of the one is joined to a shape of the other
pub record PinsJoined (r : RuleValues) (d : Netlist) (l : Layout) (p q : Pin) : Type 0 where
  pub from : ℕ
  pub to : ℕ
  pub of_first : DrawsPin d l p from
  pub of_second : DrawsPin d l q to
  pub joined : Joined r d l to from
