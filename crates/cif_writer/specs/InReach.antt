-- a routed design that is drawn within reach
use Rattle.std.specs.Prelude.{ℕ, List}
use Rattle.std.specs.List.{All, AllByRecursion}
use Rattle.channel_model.specs.Elements.{elements}
use Rattle.channel_model.specs.Wired.{IsOnGrid}
use Rattle.channel_model.specs.declared.wiring.Wiring.{Wiring}
use Rattle.channel_stack.specs.Stack.{drawings}
use Rattle.channel_stack.specs.declared.placed.PlacedItem.{PlacedItem}
use Rattle.geom_core.specs.Reach.{IsInReach, IsShapeInReach}
use Rattle.geom_core.specs.declared.layout.Shape.{Shape}
use Rattle.geom_core.specs.declared.turn.Place.{Place}
use Rattle.tech_rules.specs.Rules.{RuleValues}
use Rattle.wire_geom.specs.declared.drawn.Drawn.{Drawn}

-- a place whose offset lies within reach
pub record IsPlaceInReach (place : Place) : Type 0 where
  pub across : IsInReach place.dx
  pub up : IsInReach place.dy

-- wirings whose channels have these lower edges stand on the grids of their channels, and their rectangles, the places of items, the rectangles of risers and those of
-- symbols lie within reach
pub record AreInReach (r : RuleValues) (wirings : List Wiring) (edges : List ℕ) (rows : List (List PlacedItem)) (rises : List (List Drawn)) (symbols : List (List Shape)) : Type 0 where
  pub on_grid : AllByRecursion (λ (w : Wiring). All (IsOnGrid w.columns w.tracks) (elements w)) wirings
  pub wires : AllByRecursion (λ (drawn : List Drawn). AllByRecursion (λ (a : Drawn). IsShapeInReach a.shape) drawn) (drawings r wirings edges)
  pub places : AllByRecursion (λ (row : List PlacedItem). AllByRecursion (λ (p : PlacedItem). IsPlaceInReach p.place) row) rows
  pub risers : AllByRecursion (λ (drawn : List Drawn). AllByRecursion (λ (a : Drawn). IsShapeInReach a.shape) drawn) rises
  pub shapes : AllByRecursion (λ (drawn : List Shape). AllByRecursion IsShapeInReach drawn) symbols
