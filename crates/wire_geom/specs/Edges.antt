-- rectangles come to an edge of the channel only over an entry of their net, and each entry is met
use Rattle.std.specs.Prelude.{◌≡◌, ◌<◌, ◌⊎◌, ◌-◌, ◌+◌, ◌+ℤ◌, ◌≤ℤ◌, ℕ, List, Contains, slice_index}
use Rattle.channel_model.specs.Pins.{Pins}
use Rattle.tech_rules.specs.Lengths.{length_in}
use Rattle.tech_rules.specs.Rules.{RuleValues}
use Rattle.wire_geom.specs.Grid.{centre, scaled}
use Rattle.wire_geom.specs.declared.drawn.Drawn.{Drawn}

-- the entries of a channel: a net has a pin in a column of an edge
abbrev pub bottom_entry : Pins → ℕ → ℕ → Type 0
bottom_entry pins column net = (0 < net) × (slice_index pins.bottom column ≡ net)

abbrev pub top_entry : Pins → ℕ → ℕ → Type 0
top_entry pins column net = (0 < net) × (slice_index pins.top column ≡ net)

-- a vertical wire of the vertical width in the middle of a column
pub record StandsIn (r : RuleValues) (column : ℕ) (d : Drawn) : Type 0 where
  pub on_layer : d.shape.layer ≡ r.vertical.layer
  pub left : d.shape.rect.x0 ≡ scaled r (centre r column - r.vertical.width)
  pub right : d.shape.rect.x1 ≡ scaled r (centre r column + r.vertical.width)

-- a vertical wire in a column in which its net has an entry
pub record Enters (r : RuleValues) (entry : ℕ → ℕ → Type 0) (d : Drawn) : Type 0 where
  pub column : ℕ
  pub stands : StandsIn r column d
  pub has_entry : entry column d.net

-- a rectangle between two edges, given in half units: from each it keeps a space of so many units, or it ends exactly there over an entry
pub record Keeps (r : RuleValues) (floor ceiling : ℕ) (lower upper : ℕ → ℕ → Type 0) (space : ℕ) (d : Drawn) : Type 0 where
  pub from : scaled r floor ≤ℤ d.shape.rect.y0
  pub to : d.shape.rect.y1 ≤ℤ scaled r ceiling
  pub below : ((scaled r floor +ℤ length_in r space) ≤ℤ d.shape.rect.y0) ⊎ ((d.shape.rect.y0 ≡ scaled r floor) × Enters r lower d)
  pub above : ((d.shape.rect.y1 +ℤ length_in r space) ≤ℤ scaled r ceiling) ⊎ ((d.shape.rect.y1 ≡ scaled r ceiling) × Enters r upper d)

-- all rectangles lie between the edges, and come to them only over entries of their nets
pub record KeepEdges (r : RuleValues) (floor ceiling : ℕ) (lower upper : ℕ → ℕ → Type 0) (drawn : List Drawn) : Type 0 where
  pub horizontal : (d : Drawn) → Contains drawn d → d.shape.layer ≡ r.horizontal.layer → Keeps r floor ceiling lower upper r.horizontal.space d
  pub vertical : (d : Drawn) → Contains drawn d → d.shape.layer ≡ r.vertical.layer → Keeps r floor ceiling lower upper r.vertical.space d
  pub cut : (d : Drawn) → Contains drawn d → d.shape.layer ≡ r.cut.layer → Keeps r floor ceiling lower upper r.cut.space d

-- over each entry of the lower edge, and under each of the upper one, stands a vertical wire of its net that ends exactly at the edge
pub record MeetEntries (r : RuleValues) (floor ceiling : ℕ) (lower upper : ℕ → ℕ → Type 0) (drawn : List Drawn) : Type 0 where
  pub bottom : (column net : ℕ) → lower column net
      → (d : Drawn) × Contains drawn d × (d.net ≡ net) × StandsIn r column d × (d.shape.rect.y0 ≡ scaled r floor)
  pub top : (column net : ℕ) → upper column net
      → (d : Drawn) × Contains drawn d × (d.net ≡ net) × StandsIn r column d × (d.shape.rect.y1 ≡ scaled r ceiling)
