-- the layout in short
use Rattle.std.specs.Prelude.{ℕ, ◌+◌, ◌-◌, List, [], ◌∷◌, Option, None, Some, if◌then◌else◌, length, map, nat_lt}
use Rattle.design_model.specs.Netlist.{Netlist}
use Rattle.row_board.specs.Cost.{cost_of}
use Rattle.feed_cells.specs.Fed.{Fed}
use Rattle.feed_cells.specs.declared.fed.Item.{Item}
use Rattle.feed_cells.specs.declared.fed.Item.TheVariants.{Cell, Feed}
use Rattle.channel_stack.specs.Stack.{LaidOut, laid_of, stack_of}
use Rattle.greedy_router.specs.declared.sweep.Routed.{Routed}
use Rattle.layout_report.specs.declared.summary.ChannelLine.{ChannelLine}
use Rattle.layout_report.specs.declared.summary.Summary.{Summary}
use Rattle.layout_report.specs.declared.summary.Taken.{Taken}
use Rattle.command_jobs.specs.Job.{Job}
use Rattle.command_jobs.specs.Rows.{annealed_rows, schedule_of}
use Rattle.command_jobs.specs.Text.{rows_with_feeds, wirings_of}

-- 1 for a feed, and 0 for a cell
abbrev pub feeds_at : Item → ℕ
feeds_at (Cell seat) = 0
feeds_at (Feed net) = 1

-- how many feeds a row has, and how many rows have
abbrev pub feeds_of : List Item → ℕ
feeds_of [] = 0
feeds_of (item ∷ items) = feeds_at item + feeds_of items

abbrev pub feeds_in : List (List Item) → ℕ
feeds_in [] = 0
feeds_in (items ∷ rows) = feeds_of items + feeds_in rows

-- a routed channel in short, beside rows of this width
abbrev pub line_of_channel : ℕ → Routed → ChannelLine
line_of_channel width r = record { tracks = r.wiring.tracks; extra = r.wiring.columns - width; by = r.by }

-- what the annealed rows of a job cost
unfoldable pub cost_for : Job → ℕ
cost_for job = cost_of job.placed (annealed_rows job) (schedule_of job.rules).weights

-- what is told of a try that was taken, in so many rows and with this seed: nothing where there was one alone
abbrev pub taken_among : ℕ → ℕ → ℕ → Option Taken
taken_among tries rows seed = if nat_lt 1 tries then Some (record { rows = rows; seed = seed }) else None

-- a layout in short, of a design in rows with feeds that cost so, with these channels, where all of it lies so, and by this try
abbrev pub summary_with : Netlist → Fed → ℕ → List ChannelLine → LaidOut → Option Taken → Summary
summary_with d fed cost channels laid taken = record {
  cells = length d.instances;
  nets = length d.nets;
  rows = length fed.rows;
  feeds = feeds_in fed.rows;
  channels = channels;
  width = laid.width;
  height = laid.height;
  cost = cost;
  taken = taken;
}

-- the layout of a job with these routed channels in short
unfoldable pub summary_of : Job → List Routed → Summary
summary_of job kept =
    let fed : Fed = rows_with_feeds job in
    summary_with job.drawn.design fed (cost_for job) (map (line_of_channel fed.width) kept) (laid_of (stack_of job.rules job.drawn.design fed (wirings_of kept)))
    (taken_among job.tries job.rows job.seed)
