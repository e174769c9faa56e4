use Rattle.std.specs.Prelude.{◌≡◌, ℕ, zero, suc, ◌+◌, ◌<◌, ◌≤◌, List, ◌++◌, Contains}
use Rattle.channel_model.specs.Pins.{Pins}
use Rattle.channel_model.specs.Wired.{Wired}
use Rattle.channel_model.specs.declared.wiring.Wiring.{Wiring}
use Rattle.tech_rules.specs.Rules.{RuleValues}
use Rattle.wire_geom.specs.Drawing.{drawing}
use Rattle.wire_geom.specs.Edges.{bottom_entry, top_entry}
use Rattle.wire_geom.specs.declared.drawn.Drawn.{Drawn}
use Rattle.layout_laws.proofs.Seats.{Seat, IsSeat, LowerNet, UpperNet}
use Rattle.layout_laws.proofs.Uprights.{DrawUprights}
use Rattle.layout_laws.specs.Heights.{channel_height}

-- rows and channels on one another, channel k below row k, and a last channel above: the height of each row and the lower edge of each channel in units, what stands in
-- each row, and the rectangles of each row
pub record Plan : Type 0 where
  pub rows : ℕ
  pub height : ℕ → ℕ
  pub pins : ℕ → Pins
  pub wiring : ℕ → Wiring
  pub base : ℕ → ℕ
  pub seats : ℕ → List Seat
  pub row : ℕ → List Drawn

-- the lower edge of row k in units
abbrev pub row_base : RuleValues → Plan → ℕ → ℕ
row_base r plan k = plan.base k + channel_height r (plan.wiring k)

-- the rectangles of channel k
abbrev pub channel_drawn : RuleValues → Plan → ℕ → List Drawn
channel_drawn r plan k = drawing r (plan.base k) (plan.wiring k)

-- the rectangles up to channel k: channel 0, row 0, channel 1, and so on
abbrev pub drawn_to : RuleValues → Plan → ℕ → List Drawn
drawn_to r plan zero = channel_drawn r plan zero
drawn_to r plan (suc k) = drawn_to r plan k ++ (plan.row k ++ channel_drawn r plan (suc k))

abbrev pub plan_drawn : RuleValues → Plan → List Drawn
plan_drawn r plan = drawn_to r plan plan.rows

-- the channels are wired, the rows stand between them, as high as the vertical space where anything stands in them, and what a channel has as an entry at a row's edge is a net that comes
-- to that edge there
pub record IsPlan (r : RuleValues) (plan : Plan) : Type 0 where
  pub wired : (k : ℕ) → k ≤ plan.rows → Wired (plan.pins k) (plan.wiring k)
  pub tall : (k : ℕ) → k < plan.rows → (seat : Seat) → Contains (plan.seats k) seat → r.vertical.space ≤ plan.height k
  pub next : (k : ℕ) → k < plan.rows → plan.base (suc k) ≡ row_base r plan k + plan.height k
  pub seated : (k : ℕ) → k < plan.rows → (seat : Seat) → Contains (plan.seats k) seat → IsSeat r (plan.height k) seat
  pub drawn : (k : ℕ) → k < plan.rows → DrawUprights r (row_base r plan k) (plan.seats k) (plan.row k)
  pub top_entries : (k : ℕ) → k < plan.rows → (column net : ℕ) → top_entry (plan.pins k) column net → LowerNet (plan.seats k) column net
  pub bottom_entries : (k : ℕ) → k < plan.rows → (column net : ℕ) → bottom_entry (plan.pins (suc k)) column net → UpperNet (plan.height k) (plan.seats k) column net
