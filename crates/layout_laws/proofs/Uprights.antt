use Rattle.std.specs.Prelude.{◌≡◌, ◌≤◌, ℕ, ◌+◌, ◌-◌, ◌*◌, ◌⊎◌, List, Contains}
use Rattle.geom_core.specs.Extent.{Extent}
use Rattle.tech_rules.specs.Lengths.{IsWire}
use Rattle.tech_rules.specs.Rules.{RuleValues}
use Rattle.wire_geom.specs.Grid.{centre, scaled}
use Rattle.wire_geom.specs.declared.drawn.Drawn.{Drawn}
use Rattle.layout_laws.proofs.Seats.{Upright, Seat, UprightAt}

-- a vertical wire in the middle of a column of a row, whose lower edge lies `base` units high, between two heights in units above that edge
abbrev pub wire_rect : RuleValues → ℕ → ℕ → ℕ → ℕ → Extent
wire_rect r base low high column = record {
  x0 = scaled r (centre r column - r.vertical.width);
  y0 = scaled r (2 * (base + low));
  x1 = scaled r (centre r column + r.vertical.width);
  y1 = scaled r (2 * (base + high));
}

-- the rectangle of an upright
abbrev pub upright_rect : RuleValues → ℕ → Upright → ℕ → Extent
upright_rect r base u column = wire_rect r base u.low u.high column

-- a rectangle is a wire within an upright of the row, on the vertical layer and of the upright's net; so may be several, as a pin and what leads from it to the
-- row's edge
pub record DrawsUpright (r : RuleValues) (base : ℕ) (seats : List Seat) (a : Drawn) : Type 0 where
  pub upright : Upright
  pub column : ℕ
  pub low : ℕ
  pub high : ℕ
  pub at : UprightAt upright column 0 seats
  pub from : upright.low ≤ low
  pub to : high ≤ upright.high
  pub long : low + r.vertical.width ≤ high
  pub layer : a.shape.layer ≡ r.vertical.layer
  pub rect : a.shape.rect ≡ wire_rect r base low high column
  pub net : a.net ≡ upright.net

-- wires and cuts, as against outlines
abbrev pub IsWired : RuleValues → Drawn → Type 0
IsWired r a = IsWire r a.shape.layer ⊎ (a.shape.layer ≡ r.cut.layer)

-- every wire of a row lies within an upright of it, and there are no cuts
abbrev pub DrawUprights : RuleValues → ℕ → List Seat → List Drawn → Type 0
DrawUprights r base seats ds = (a : Drawn) → Contains ds a → IsWired r a → DrawsUpright r base seats a
