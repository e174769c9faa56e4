-- a good layout
use Rattle.std.specs.Prelude.{◌≡◌, ◌↔◌, ℕ, List, Some, Contains, slice_get}
use Rattle.geom_core.specs.declared.layout.Layout.{Layout}
use Rattle.geom_core.specs.declared.layout.Shape.{Shape}
use Rattle.tech_rules.specs.InRows.{InRows}
use Rattle.geom_core.specs.Rectangles.{Apart}
use Rattle.tech_rules.specs.Lengths.{length_in}
use Rattle.tech_rules.specs.Rules.{RuleValues}
use Rattle.tech_rules.specs.Wide.{Wide}
use Rattle.design_model.specs.CellsMatch.{CellsMatch}
use Rattle.design_model.specs.Joined.{Joined, PinsJoined}
use Rattle.design_model.specs.Netlist.{Netlist}
use Rattle.design_model.specs.declared.design.Pin.{Pin}

-- the product's own rule: any two shapes of a layer that are not joined keep a space of so many units
abbrev pub KeepSpace : RuleValues → Netlist → Layout → List ℕ → ℕ → Type 0
KeepSpace r d l layer space = (i j : ℕ) (s t : Shape) → slice_get l.shapes i ≡ Some s → slice_get l.shapes j ≡ Some t
    → s.layer ≡ layer → t.layer ≡ layer → (Joined r d l j i → ⊥) → Apart (length_in r space) s.rect t.rect

-- the shapes of the two layers of wires and of the cuts keep their layers' spaces
pub record Spaced (r : RuleValues) (d : Netlist) (l : Layout) : Type 0 where
  pub horizontal : KeepSpace r d l r.horizontal.layer r.horizontal.space
  pub vertical : KeepSpace r d l r.vertical.layer r.vertical.space
  pub cut : KeepSpace r d l r.cut.layer r.cut.space

-- the product's own rule: a layout is good for a design and rules where every instance stands once, in a row, without overlap, all shapes keep the rules' widths and
-- spaces, and the pins that shapes join are exactly those of one net
pub record Good (r : RuleValues) (d : Netlist) (l : Layout) : Type 0 where
  pub cells : CellsMatch r d l
  pub rows : InRows r l
  pub wide : Wide r l
  pub spaced : Spaced r d l
  pub nets : (p q : Pin) → Contains d.pins p → Contains d.pins q → PinsJoined r d l p q ↔ (p.net ≡ q.net)
