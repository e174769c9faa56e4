-- the limits of a job
use Rattle.std.specs.Prelude.{ℕ, ◌*◌, Option, Result, Ok}
use Rattle.limits.specs.declared.TheConstants.{MOST_CHANGES, MOST_COLUMNS, MOST_SIZE}
use Rattle.tech_rules.specs.Rules.{RuleValues}
use Rattle.design_model.specs.Netlist.{Netlist}
use Rattle.anneal_int.specs.Annealed.{all_changes}
use Rattle.command_ends.specs.Refusing.{or_refusal}
use Rattle.command_jobs.specs.Rows.{schedule_of}
use Rattle.pin_assign.specs.declared.bound.Bound.{Bound}
use Rattle.command_ends.specs.declared.refusal.Limited.TheVariants as limits
use Rattle.command_ends.specs.declared.refusal.Refusal.{Refusal}
use Rattle.command_jobs.specs.Job.{Job}
use Rattle.command_ends.specs.Refusing.{unless}
use Rattle.command_jobs.specs.Text.{bound_for}
use Rattle.command_ends.specs.Limits.{above}

-- annealing tries at most 50,000,000 changes, in all tries together
unfoldable pub moves_refusal : RuleValues → Netlist → ℕ → Option Refusal
moves_refusal rules d tries = above limits.Moves MOST_CHANGES (all_changes d (schedule_of rules) * tries)

-- the first limit that a layout of this size passes: 4,000,000 columns, and 1,000,000,000 centimicrons for the width and for the height
unfoldable pub size_refusal : Bound → Option Refusal
size_refusal bound =
    or_refusal (above limits.Grid MOST_COLUMNS bound.grid) (
    or_refusal (above limits.Width MOST_SIZE bound.width) (
    above limits.Height MOST_SIZE bound.height))

-- a job that passes the limits: that of the changes of annealing in all its tries, and those of its layout
unfoldable pub within_limits : Job → Result Job Refusal
within_limits job = unless (moves_refusal job.rules job.placed job.tries) (unless (size_refusal (bound_for job)) (Ok job))
