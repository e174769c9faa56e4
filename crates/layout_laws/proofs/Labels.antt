use Rattle.std.specs.Prelude.{◌≡◌, ℕ, List, map, Contains, Some, slice_get}
use Rattle.geom_core.specs.declared.layout.Layout.{Layout}
use Rattle.tech_rules.specs.Rules.{RuleValues}
use Rattle.design_model.specs.Joined.{Draws, DrawsPin}
use Rattle.design_model.specs.Netlist.{Netlist}
use Rattle.design_model.specs.declared.design.Pin.{Pin}
use Rattle.wire_geom.specs.Spaces.{NetsApart}
use Rattle.wire_geom.specs.Widths.{AreWide}
use Rattle.wire_geom.specs.declared.drawn.Drawn.{Drawn}
use Rattle.layout_laws.proofs.Chains.{AreChained}
use Rattle.layout_laws.proofs.Uprights.{IsWired}

-- the shape with a pin's drawing is a vertical wire of the pin's net; `net_at` gives the net of a terminal of an instance
pub record ShowsPins (r : RuleValues) (d : Netlist) (l : Layout) (ds : List Drawn) (net_at : ℕ → ℕ → ℕ) : Type 0 where
  pub shapes : l.shapes ≡ map (λ (a : Drawn). a.shape) ds
  pub drawn : (cell instance terminal i : ℕ) → Draws d l cell instance terminal i
      → (a : Drawn) × (slice_get ds i ≡ Some a) × (a.shape.layer ≡ r.vertical.layer) × (a.net ≡ net_at instance terminal)
  pub shown : (p : Pin) → Contains d.pins p → (i : ℕ) × DrawsPin d l p i
  pub nets : (p : Pin) → Contains d.pins p → net_at p.instance p.terminal ≡ p.net

-- the shapes of a layout have nets: those of different nets are apart, and those of one net are chained
pub record IsLabelled (r : RuleValues) (d : Netlist) (l : Layout) (ds : List Drawn) (net_at : ℕ → ℕ → ℕ) : Type 0 where
  pub pins : ShowsPins r d l ds net_at
  pub wide : AreWide r ds
  pub apart : NetsApart r ds
  pub chained : (a b : Drawn) → Contains ds a → Contains ds b → IsWired r a → IsWired r b → a.net ≡ b.net → AreChained r d l ds b a
