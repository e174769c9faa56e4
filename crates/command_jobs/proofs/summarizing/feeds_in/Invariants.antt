use Rattle.std.proofs.Common.{◌≡◌, ◌+◌, length}
use Rattle.command_jobs.specs.Summarized.{feeds_in}
use Rattle.command_jobs.proofs.summarizing.feeds_in.Given as goal

-- those so far and those that are left are all
abbrev pub invariant-loop-row : goal.invariant-loop-row
invariant-loop-row l = l.feeds + feeds_in l.rest ≡ feeds_in l.fn.rows

abbrev pub decreases-loop-row : goal.decreases-loop-row
decreases-loop-row l = length l.rest
