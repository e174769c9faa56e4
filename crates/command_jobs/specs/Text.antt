-- the rows with feeds of a job, its channels, also routed, and the text of its layout
use Rattle.std.specs.Prelude.{◌≡◌, ◌≤◌, ℕ, Bool, List, map}
use Rattle.limits.specs.declared.TheConstants.{MOST_COLUMNS}
use Rattle.tech_rules.specs.Rules.{RuleValues}
use Rattle.design_model.specs.Netlist.{Netlist}
use Rattle.feed_cells.specs.Fed.{Fed, IsFed, fed_rows}
use Rattle.channel_model.specs.declared.wiring.Wiring.{Wiring}
use Rattle.channel_model.specs.Pins.{Pins}
use Rattle.greedy_router.specs.declared.sweep.Routed.{Routed}
use Rattle.pin_assign.specs.Bounds as pins
use Rattle.pin_assign.specs.Tables.{tables_of}
use Rattle.pin_assign.specs.declared.bound.Bound.{Bound}
use Rattle.channel_stack.specs.Routed.{AreWired, IsRouted}
use Rattle.channel_stack.specs.Stack.{stack_of}
use Rattle.cif_writer.specs.LayoutText.{placed_text}
use Rattle.port_rows.specs.PortRows.{HaveEdges}
use Rattle.command_jobs.specs.Job.{Job}
use Rattle.command_jobs.specs.Rows.{rows_of}

-- the wirings of channels that are routed, from the lowest channel up
abbrev pub wirings_of : List Routed → List Wiring
wirings_of kept = map (λ (r : Routed). r.wiring) kept

-- the text of rows with feeds and of the wirings of the channels between them, with labels or without
abbrev pub routed_text : Bool → RuleValues → Netlist → Fed → List Wiring → List ℕ
routed_text labels r d fed wirings = placed_text labels r d fed (stack_of r d fed wirings)

-- the rows of a job with feeds
unfoldable pub rows_with_feeds : Job → Fed
rows_with_feeds job = fed_rows job.drawn.design (rows_of job)

-- the rows of a job with feeds, and routed channels between them, which connect what they should and are within the limits; its ports stand in the rows at the edges
pub record AreRoutedRows (job : Job) (fed : Fed) (kept : List Routed) : Type 0 where
  pub is : fed ≡ rows_with_feeds job
  pub feeds : IsFed job.drawn.design fed
  pub narrow : fed.width ≤ MOST_COLUMNS
  pub wired : AreWired job.drawn.design fed (wirings_of kept)
  pub routed : IsRouted job.rules job.drawn.design fed (wirings_of kept)
  pub edges : HaveEdges job.drawn (rows_of job)

-- the channels of a job
abbrev pub channels_of : Job → List Pins
channels_of job = tables_of job.drawn.design (rows_with_feeds job)

-- the text of a job with these routed channels: that of its rows with feeds and of their wirings
unfoldable pub job_text : Job → List Routed → List ℕ
job_text job kept = routed_text job.labels job.rules job.drawn.design (rows_with_feeds job) (wirings_of kept)

-- the size that the layout of a job is within
abbrev pub bound_for : Job → Bound
bound_for job = pins.bound_of job.rules job.drawn.design (rows_with_feeds job)
