use Rattle.std.specs.Prelude.{ℕ, List, Contains}
use Rattle.geom_core.specs.declared.layout.Layout.{Layout}
use Rattle.tech_rules.specs.Rules.{RuleValues}
use Rattle.design_model.specs.Joined.{Draws}
use Rattle.design_model.specs.Netlist.{Netlist}
use Rattle.geom_extract.specs.Touching.{Connected}

-- two shapes draw positions of one terminal in one cell
pub record DrawOne (d : Netlist) (l : Layout) (i j : ℕ) : Type 0 where
  pub cell : ℕ
  pub instance : ℕ
  pub terminal : ℕ
  pub first : Draws d l cell instance terminal i
  pub second : Draws d l cell instance terminal j

-- shapes that are tied draw one terminal in one cell, and those that draw one are the same or a chain of ties leads from one to the other
pub record AreTies (r : RuleValues) (d : Netlist) (l : Layout) (ties : List (ℕ × ℕ)) : Type 0 where
  pub each : (i j : ℕ) → Contains ties (i, j) → DrawOne d l i j
  pub all : (i j : ℕ) → DrawOne d l i j → Connected r l.shapes ties i j
