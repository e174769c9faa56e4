use Rattle.std.proofs.Common.{◌≡◌, ◌∙◌, ◌+◌, ℕ, List, length, ap, subst, sym}
use Rattle.std.specs.Prelude.{slice_get}
use Rattle.channel_model.specs.declared.wiring.Wiring.{Wiring}
use Rattle.channel_stack.proofs.RowEdges.{stack-highest, stack-lowest}
use Rattle.channel_stack.specs.Layouts.{layout_of}
use Rattle.channel_stack.specs.Stack.{stack_of}
use Rattle.design_model.specs.Netlist.{IsNetlist}
use Rattle.design_model.specs.Room.{HasRoom}
use Rattle.feed_cells.proofs.FedLaws.{cells-fed}
use Rattle.feed_cells.specs.Fed.{Fed, cells_in, fed_rows}
use Rattle.port_rows.specs.declared.ported.Ported.{Ported}
use Rattle.row_model.specs.Stands.{row_of}
use Rattle.row_model.specs.declared.rows.Seat.{Seat}
use Rattle.tech_rules.specs.Rules.{RuleValues, ValidRules}
use Rattle.std.proofs.lemmas.List.{length-map}
use Rattle.feed_cells.specs.Fed.{seats_in}
use Rattle.greedy_router.specs.declared.sweep.Routed.{Routed}
use Rattle.command_jobs.specs.Job.{Job}
use Rattle.command_jobs.specs.Rows.{rows_of}
use Rattle.command_jobs.specs.Text.{AreRoutedRows, rows_with_feeds, wirings_of}
use Rattle.command_jobs.specs.Written.{StandAtEdges}

-- the cells of a job's ports stand in the rows at the edges of its layout
pub ports-stand : (job : Job) (fed : Fed) (kept : List Routed) → ValidRules job.rules → IsNetlist job.drawn.design → HasRoom job.rules job.drawn.design → AreRoutedRows job fed kept
    → StandAtEdges job.rules job.drawn (layout_of job.rules job.drawn.design (stack_of job.rules job.drawn.design fed (wirings_of kept)))
unfolding rows_with_feeds
ports-stand job fed kept valid is room routed = record {
  south = λ n i cell port at listed named.
      stack-lowest job.rules valid job.drawn.design is room fed routed.feeds (wirings_of kept) routed.wired.each n cell i listed at named
      (ap (λ (rows : List (List Seat)). row_of job.drawn.design rows n) cells ∙ routed.edges.south n port);
  north = λ n i cell port at listed named.
      stack-highest job.rules valid job.drawn.design is room fed routed.feeds (wirings_of kept) routed.wired.each n cell i listed at named
      (ap (λ (rows : List (List Seat)). row_of job.drawn.design rows n + 1) cells ∙ routed.edges.north n port ∙ sym many);
}
  where
    cells : cells_in fed.rows ≡ rows_of job
    cells = ap (λ (f : Fed). cells_in f.rows) routed.is ∙ cells-fed job.drawn.design (rows_of job)

    many : length fed.rows ≡ length (rows_of job)
    many = sym (length-map fed.rows seats_in) ∙ ap length cells
