use Rattle.std.proofs.Common.{◌≡◌, ◌+◌, length}
use Rattle.command_jobs.specs.Summarized.{feeds_of}
use Rattle.command_jobs.proofs.summarizing.feeds_of.Given as goal

-- those so far and those that are left are all
abbrev pub invariant-loop-item : goal.invariant-loop-item
invariant-loop-item l = l.feeds + feeds_of l.rest ≡ feeds_of l.fn.items

abbrev pub decreases-loop-item : goal.decreases-loop-item
decreases-loop-item l = length l.rest
