-- a placement that was made
use Rattle.std.specs.Prelude.{◌≡◌}
use Rattle.feed_cells.specs.Fed.{IsFed, cells_in}
use Rattle.feed_cells.specs.Placement.{placement_of}
use Rattle.port_rows.specs.PortRows.{HaveEdges}
use Rattle.command_jobs.specs.Job.{Job}
use Rattle.command_jobs.specs.Rows.{rows_of}
use Rattle.command_jobs.specs.Summarized.{cost_for}
use Rattle.command_jobs.specs.Text.{rows_with_feeds}
use Rattle.command_jobs.specs.declared.placing.Placed.{Placed}

-- a placement is that of a job: its rows with feeds, where its pins and nets stand in them, and what its rows cost
pub record IsPlacedAs (job : Job) (a : Placed) : Type 0 where
  pub rows : a.annealed.rows ≡ job.rows
  pub seed : a.annealed.seed ≡ job.seed
  pub cost : a.annealed.cost ≡ cost_for job
  pub fed : a.fed ≡ rows_with_feeds job
  pub feeds : IsFed job.drawn.design a.fed
  pub placement : a.placement ≡ placement_of job.drawn.design (cells_in a.fed.rows)
  pub edges : HaveEdges job.drawn (rows_of job)
