use Rattle.std.specs.Prelude.{◌≡◌, ◌<◌, ℕ, List, ◌∷◌, ◌++◌, length, Some, slice_get}
use Rattle.geom_core.specs.declared.layout.Layout.{Layout}
use Rattle.tech_rules.specs.Rules.{RuleValues}
use Rattle.design_model.specs.Joined.{Draws}
use Rattle.design_model.specs.Netlist.{Netlist}
use Rattle.design_model.specs.declared.design.Position.{Position}
use Rattle.row_model.specs.Stands.{positions_of}
use Rattle.row_model.specs.declared.rows.Seat.{Seat}
use Rattle.feed_cells.specs.Fed.{Fed, items_width}
use Rattle.feed_cells.specs.declared.fed.Item.{Item}
use Rattle.feed_cells.specs.declared.fed.Item.TheVariants.{Cell}
use Rattle.channel_model.specs.declared.wiring.Wiring.{Wiring}
use Rattle.layout_laws.proofs.Plans.{row_base, plan_drawn}
use Rattle.channel_stack.proofs.Planned.{plan_of, upright_of, upright_drawn}

-- the shape with this number draws a position of a seat of row k that stands behind these items, in this cell
pub record DrawsPosition (r : RuleValues) (d : Netlist) (fed : Fed) (ws : List Wiring) (l : Layout) (k : ℕ) (front : List Item) (s : Seat) (cell : ℕ) (position : Position) : Type 0 where
  pub shape : ℕ
  pub draws : Draws d l cell s.instance position.terminal shape
  pub at : slice_get (plan_drawn r (plan_of r d fed ws)) shape
      ≡ Some (upright_drawn r (row_base r (plan_of r d fed ws) k) (items_width d front) (upright_of r d s position))

-- a seat of row k that stands behind these items has one cell, in which each of its positions is drawn
pub record DrawsSeat (r : RuleValues) (d : Netlist) (fed : Fed) (ws : List Wiring) (l : Layout) (k : ℕ) (front : List Item) (s : Seat) : Type 0 where
  pub cell : ℕ
  pub positions : (i : ℕ) (position : Position) → slice_get (positions_of d s.instance) i ≡ Some position → DrawsPosition r d fed ws l k front s cell position

-- the positions of the seats of all rows are drawn in a layout where they stand in its plan
pub record DrawsSeats (r : RuleValues) (d : Netlist) (fed : Fed) (ws : List Wiring) (l : Layout) : Type 0 where
  pub seat : (k : ℕ) (front : List Item) (s : Seat) (back : List Item) → k < length fed.rows → slice_get fed.rows k ≡ Some (front ++ Cell s ∷ back)
      → DrawsSeat r d fed ws l k front s
