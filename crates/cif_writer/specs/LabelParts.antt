-- what labels are written from
use Rattle.std.specs.Prelude.{◌≡◌, ◌≤ℤ◌, ◌<◌, length, ℕ, ℤ, pos, negsuc, List, [], ◌∷◌, map, if◌then◌else◌, ◌==◌, Option, None, Some, slice_get, IfSome}
use Rattle.std.specs.List.{AllByRecursion}
use Rattle.geom_core.specs.Extent.{Extent}
use Rattle.geom_core.specs.Reach.{IsShapeInReach}
use Rattle.geom_core.specs.declared.layout.Shape.{Shape}
use Rattle.geom_core.specs.declared.turn.Place.{Place}
use Rattle.tech_rules.specs.Rules.{RuleValues}
use Rattle.design_model.specs.Drawing.{drawing_of, position_shape}
use Rattle.design_model.specs.Netlist.{Netlist}
use Rattle.design_model.specs.PinOrder.{instance_terminals}
use Rattle.design_model.specs.declared.design.CellKind.{CellKind}
use Rattle.design_model.specs.declared.design.Position.{Position}
use Rattle.channel_stack.specs.declared.placed.PlacedItem.{PlacedItem}
use Rattle.cif_writer.specs.Labels.{first_pins, mark_at, placed_marks, terminal_marks}

-- a number of magnitude at most 2 * 10^15
pub record IsInTwiceReach (z : ℤ) : Type 0 where
  pub low : negsuc 1999999999999999 ≤ℤ z
  pub high : z ≤ℤ pos 2000000000000000

-- a rectangle with such sides
pub record IsExtentInTwiceReach (e : Extent) : Type 0 where
  pub x0 : IsInTwiceReach e.x0
  pub y0 : IsInTwiceReach e.y0
  pub x1 : IsInTwiceReach e.x1
  pub y1 : IsInTwiceReach e.y1

-- drawings of which the first are those of a design's kinds, and the first pins of its nets, where labels are written
pub record AreLabelParts (r : RuleValues) (d : Netlist) (drawings : List (List Shape)) (firsts : Option (List ℕ)) : Type 0 where
  pub drawn : (n : ℕ) (k : CellKind) → slice_get d.kinds n ≡ Some k → slice_get drawings n ≡ Some (drawing_of r k)
  pub reach : AllByRecursion (λ (drawing : List Shape). AllByRecursion IsShapeInReach drawing) drawings
  pub firsts_are : IfSome firsts (λ (all : List ℕ). all ≡ first_pins d)

-- the shape that stands beside the first position of a terminal
abbrev pub shape_beside : ℕ → List Position → List Shape → Option Shape
shape_beside terminal [] shapes = None
shape_beside terminal (p ∷ positions) [] = None
shape_beside terminal (p ∷ positions) (s ∷ shapes) = if p.terminal == terminal then Some s else shape_beside terminal positions shapes

-- an instance of a kind, and the rectangles of the kind's positions, which lie within reach
pub record IsLabelled (r : RuleValues) (d : Netlist) (instance : ℕ) (kind : CellKind) (pins : List Shape) : Type 0 where
  pub inside : instance < length d.instances
  pub terminals : instance_terminals d instance ≡ kind.terminals
  pub pins_are : pins ≡ map (position_shape r kind.height) kind.positions
  pub reach : AllByRecursion IsShapeInReach pins

-- what the labels of an item are made of
pub record IsLabelledCell (r : RuleValues) (d : Netlist) (p : PlacedItem) (place : Place) (instance : ℕ) (name : List ℕ) (kind : CellKind) (outline : Shape) (pins : List Shape) : Type 0 where
  pub at : place ≡ p.place
  pub is : IsLabelled r d instance kind pins
  pub outline_near : IsShapeInReach outline
  pub marks : placed_marks r d p.item p.place ≡ mark_at place name outline ∷ terminal_marks r d instance kind place 0 kind.terminals
