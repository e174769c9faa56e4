-- the number of rows of a try, the schedule of annealing of a job, its annealed rows, and these between those of the ports
use Rattle.std.specs.Prelude.{ℕ, List, Option, None, Some}
use Rattle.tech_rules.specs.Rules.{RuleValues}
use Rattle.design_model.specs.Netlist.{Netlist}
use Rattle.row_model.specs.Start.{default_rows, start_rows}
use Rattle.row_model.specs.declared.rows.Seat.{Seat}
use Rattle.anneal_int.specs.Annealed.{annealed}
use Rattle.anneal_int.specs.Schedule.{Annealing}
use Rattle.port_rows.specs.PortRows.{with_port_rows}
use Rattle.placement_tries.specs.RowCounts.{rows_at}
use Rattle.command_jobs.specs.Job.{Job}

-- the number of rows of a try of a design: the one that is asked for, or else by the list that begins with as many as make the layout about square
abbrev pub rows_for : RuleValues → Netlist → Option ℕ → ℕ → ℕ
rows_for rules d None number = rows_at (default_rows rules d) number
rows_for rules d (Some rows) number = rows

-- how rules have rows annealed
abbrev pub schedule_of : RuleValues → Annealing
schedule_of rules = record {
  temperature = rules.annealing.temperature;
  stages = rules.annealing.stages;
  moves = rules.annealing.moves;
  weights = record { row_cost = rules.annealing.row_cost; length_cost = rules.annealing.length_cost };
}

-- the rows that the design to be placed begins with, annealed
unfoldable pub annealed_rows : Job → List (List Seat)
annealed_rows job = annealed job.placed (start_rows job.rules.annealing.start job.placed job.rows) (schedule_of job.rules) job.seed

-- the rows of a job: those between the rows of the ports
unfoldable pub rows_of : Job → List (List Seat)
rows_of job = with_port_rows job.drawn (annealed_rows job)
