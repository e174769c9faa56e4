use Rattle.std.specs.Prelude.{◌≡◌, ◌⊎◌, ℕ, suc, ◌+◌, ◌*◌, ◌<◌, ◌≤◌, Contains}
use Rattle.geom_core.specs.declared.layout.Layout.{Layout}
use Rattle.tech_rules.specs.Rules.{RuleValues}
use Rattle.design_model.specs.Netlist.{Netlist}
use Rattle.wire_geom.specs.Edges.{StandsIn, bottom_entry, top_entry}
use Rattle.wire_geom.specs.Grid.{scaled}
use Rattle.wire_geom.specs.declared.drawn.Drawn.{Drawn}
use Rattle.layout_laws.proofs.Chains.{AreChained}
use Rattle.layout_laws.proofs.Plans.{Plan, row_base, plan_drawn}
use Rattle.layout_laws.proofs.Uprights.{IsWired}

-- a rectangle of row k stands on the row's lower edge, in a column in which its net has an entry of the channel below
pub record EntersBelow (r : RuleValues) (plan : Plan) (k : ℕ) (a : Drawn) : Type 0 where
  pub column : ℕ
  pub listed : Contains (plan.row k) a
  pub stands : StandsIn r column a
  pub at_edge : a.shape.rect.y0 ≡ scaled r (2 * row_base r plan k)
  pub has_entry : top_entry (plan.pins k) column a.net

-- a rectangle of row k reaches the row's upper edge, in a column in which its net has an entry of the channel above
pub record EntersAbove (r : RuleValues) (plan : Plan) (k : ℕ) (a : Drawn) : Type 0 where
  pub column : ℕ
  pub listed : Contains (plan.row k) a
  pub stands : StandsIn r column a
  pub at_edge : a.shape.rect.y1 ≡ scaled r (2 * (row_base r plan k + plan.height k))
  pub has_entry : bottom_entry (plan.pins (suc k)) column a.net

-- a rectangle of a row, or one of its net to which a chain leads, enters a channel beside the row
pub data Entering (r : RuleValues) (plan : Plan) (d : Netlist) (l : Layout) (k : ℕ) (a : Drawn) : Type 0 where
  into_below : (b : Drawn) → AreChained r d l (plan_drawn r plan) b a → b.net ≡ a.net → EntersBelow r plan k b → Entering r plan d l k a
  into_above : (b : Drawn) → AreChained r d l (plan_drawn r plan) b a → b.net ≡ a.net → EntersAbove r plan k b → Entering r plan d l k a

-- a net leads through row k: one rectangle of it enters the channel below, one the channel above, and a chain leads from the one to the other
pub record IsCrossed (r : RuleValues) (plan : Plan) (d : Netlist) (l : Layout) (k net : ℕ) : Type 0 where
  pub low : Drawn
  pub high : Drawn
  pub chained : AreChained r d l (plan_drawn r plan) high low
  pub below : EntersBelow r plan k low
  pub above : EntersAbove r plan k high
  pub low_net : low.net ≡ net
  pub high_net : high.net ≡ net

-- a net threads the channels from `low` to `high`: its entries are in these, it leads through each row between them, and each of its rectangles in a row enters a channel
pub record Threads (r : RuleValues) (plan : Plan) (d : Netlist) (l : Layout) (net low high : ℕ) : Type 0 where
  pub last : high ≤ plan.rows
  pub ordered : low ≤ high
  pub entries : (k column : ℕ) → k ≤ plan.rows → top_entry (plan.pins k) column net ⊎ bottom_entry (plan.pins k) column net → (low ≤ k) × (k ≤ high)
  pub crossed : (k : ℕ) → low ≤ k → k < high → IsCrossed r plan d l k net
  pub entering : (k : ℕ) (a : Drawn) → k < plan.rows → Contains (plan.row k) a → IsWired r a → a.net ≡ net → Entering r plan d l k a

-- a net has no entry, and all its rectangles are chained
pub record IsLone (r : RuleValues) (plan : Plan) (d : Netlist) (l : Layout) (net : ℕ) : Type 0 where
  pub none : (k column : ℕ) → k ≤ plan.rows → top_entry (plan.pins k) column net ⊎ bottom_entry (plan.pins k) column net → ⊥
  pub chained : (j k : ℕ) (a b : Drawn) → j < plan.rows → k < plan.rows → Contains (plan.row j) a → Contains (plan.row k) b → IsWired r a → IsWired r b
      → a.net ≡ net → b.net ≡ net → AreChained r d l (plan_drawn r plan) b a

-- each net threads some channels, or is alone; and the wires in rows are of nets
pub record AreThreaded (r : RuleValues) (plan : Plan) (d : Netlist) (l : Layout) : Type 0 where
  pub nets : (net : ℕ) → 0 < net → IsLone r plan d l net ⊎ ((low : ℕ) × (high : ℕ) × Threads r plan d l net low high)
  pub positive : (k : ℕ) (a : Drawn) → k < plan.rows → Contains (plan.row k) a → IsWired r a → 0 < a.net
