-- the tries of a job, and the one that is taken
use Rattle.std.specs.Prelude.{ℕ, Option}
use Rattle.tech_rules.specs.Rules.{RuleValues}
use Rattle.port_rows.specs.Designs.{placed_in}
use Rattle.port_rows.specs.declared.designs.Designs.{Designs}
use Rattle.placement_tries.specs.Estimate.{estimate_of}
use Rattle.placement_tries.specs.Taking.{first_least, seed_at}
use Rattle.command_jobs.specs.Job.{Job}
use Rattle.command_jobs.specs.Rows.{rows_for}
use Rattle.command_jobs.specs.Text.{rows_with_feeds}
use Rattle.command_words.specs.declared.command.Wanted.{Wanted}

-- the job of laying designs out so, as the try of this number
abbrev pub try_of : RuleValues → Designs → Wanted → ℕ → Job
try_of rules designs wanted number = record {
  rules = rules;
  placed = placed_in designs;
  drawn = designs.drawn;
  rows = rows_for rules (placed_in designs) wanted.rows number;
  seed = seed_at wanted.seed number;
  tries = wanted.tries;
  labels = wanted.labels;
}

-- the estimate of the area of a job's layout
unfoldable pub estimate_for : Job → Option ℕ
estimate_for job = estimate_of job.rules job.drawn.design (rows_with_feeds job)

-- the try that is taken: the first of least estimate
unfoldable pub taken_try : RuleValues → Designs → Wanted → ℕ
taken_try rules designs wanted = first_least (λ (number : ℕ). estimate_for (try_of rules designs wanted number)) wanted.tries

-- the job of laying designs out so: the try that is taken
abbrev pub job_of : RuleValues → Designs → Wanted → Job
job_of rules designs wanted = try_of rules designs wanted (taken_try rules designs wanted)
