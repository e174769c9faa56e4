use Rattle.std.proofs.Common.{◌≡◌}
use Rattle.placement_tries.specs.Taking.{first_least}
use Rattle.command_jobs.proofs.TryLaws.{IsTried, estimates}
use Rattle.command_jobs.proofs.trying.best_of.Given as goal

-- the best so far is the first of least estimate of the tries so far
abbrev pub invariant-loop-number : goal.invariant-loop-number
invariant-loop-number g l = record {
  best : IsTried l.rules l.designs l.wanted (first_least (estimates l.rules l.designs l.wanted) l.number) l.best;
  goes : g.W.Watch.goes l.fn.watch l.watch;
}
