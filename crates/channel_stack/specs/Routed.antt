-- wirings for all channels, and stacks of them
use Rattle.std.specs.Prelude.{◌≡◌, ◌≤◌, ℕ, ◌+◌, List, length, All, Some, slice_get}
use Rattle.limits.specs.declared.TheConstants.{MOST_SIZE}
use Rattle.channel_model.specs.Elements.{elements}
use Rattle.channel_model.specs.Limits.{most_extra, most_tracks}
use Rattle.channel_model.specs.Pins.{Pins}
use Rattle.channel_model.specs.Wired.{Wired, IsOnGrid}
use Rattle.channel_model.specs.declared.wiring.Wiring.{Wiring}
use Rattle.design_model.specs.Netlist.{Netlist}
use Rattle.feed_cells.specs.Fed.{Fed}
use Rattle.pin_assign.specs.Bounds.{bound_of}
use Rattle.pin_assign.specs.Tables.{tables_of}
use Rattle.tech_rules.specs.Rules.{RuleValues}
use Rattle.channel_stack.specs.Stack.{Stacked, total_columns}

-- there is one wiring for each channel, and it connects its channel
pub record AreWired (d : Netlist) (fed : Fed) (ws : List Wiring) : Type 0 where
  pub each : length ws ≡ length fed.rows + 1
  pub wired : (k : ℕ) (pins : Pins) (w : Wiring) → slice_get (tables_of d fed) k ≡ Some pins → slice_get ws k ≡ Some w → Wired pins w

-- there is one wiring for each channel, whose elements lie in its columns and lines; it has no more tracks than a router may take for the channel's nets, and no more columns beyond
-- the widest row; and the layout's bound passes no limit
pub record IsRouted (r : RuleValues) (d : Netlist) (fed : Fed) (ws : List Wiring) : Type 0 where
  pub each : length ws ≡ length fed.rows + 1
  pub on_grid : (k : ℕ) (w : Wiring) → slice_get ws k ≡ Some w → All (IsOnGrid w.columns w.tracks) (elements w)
  pub tracks : (k nets : ℕ) (w : Wiring) → slice_get ws k ≡ Some w → slice_get fed.nets k ≡ Some nets → w.tracks ≤ most_tracks nets
  pub columns : (k nets : ℕ) (w : Wiring) → slice_get ws k ≡ Some w → slice_get fed.nets k ≡ Some nets → w.columns ≤ fed.width + most_extra nets
  pub width : (bound_of r d fed).width ≤ MOST_SIZE
  pub height : (bound_of r d fed).height ≤ MOST_SIZE

-- a stack is within the layout's bound: its width, its height, and the columns of all its wirings together
pub record IsWithin (r : RuleValues) (d : Netlist) (fed : Fed) (ws : List Wiring) (placed : Stacked) : Type 0 where
  pub width : placed.width ≤ (bound_of r d fed).width
  pub height : placed.height ≤ (bound_of r d fed).height
  pub grid : total_columns ws ≤ (bound_of r d fed).grid
