use Rattle.std.specs.Prelude.{◌≡◌, ℕ, List, Contains, Some, slice_get}
use Rattle.geom_core.specs.declared.layout.Layout.{Layout}
use Rattle.tech_rules.specs.Rules.{RuleValues}
use Rattle.design_model.specs.Joined.{Touch, Draws}
use Rattle.design_model.specs.Netlist.{Netlist}
use Rattle.wire_geom.specs.declared.drawn.Drawn.{Drawn}

-- two rectangles draw positions of one terminal in one cell
pub record AreTied (d : Netlist) (l : Layout) (ds : List Drawn) (a b : Drawn) : Type 0 where
  pub cell : ℕ
  pub instance : ℕ
  pub terminal : ℕ
  pub from : ℕ
  pub to : ℕ
  pub first : Draws d l cell instance terminal from
  pub second : Draws d l cell instance terminal to
  pub at_from : slice_get ds from ≡ Some a
  pub at_to : slice_get ds to ≡ Some b

-- a chain from one rectangle to another, in which each touches the next, or is tied to it
pub data AreChained (r : RuleValues) (d : Netlist) (l : Layout) (ds : List Drawn) (b : Drawn) : Drawn → Type 0 where
  itself : AreChained r d l ds b b
  by_touch : {a : Drawn} (c : Drawn) → Contains ds c → Touch r a.shape c.shape → AreChained r d l ds b c → AreChained r d l ds b a
  by_tie : {a : Drawn} (c : Drawn) → AreTied d l ds a c → AreChained r d l ds b c → AreChained r d l ds b a

-- the same, or tied
pub data AreTogether (d : Netlist) (l : Layout) (ds : List Drawn) (a : Drawn) : Drawn → Type 0 where
  same : AreTogether d l ds a a
  tied : {b : Drawn} → AreTied d l ds a b → AreTogether d l ds a b
