use Rattle.std.proofs.Common.{arith}
use Rattle.command_jobs.proofs.TryLaws.{first-tried, more-tried, taken-placed}
use Rattle.command_jobs.proofs.trying.best_of.Goals as goal

pub loop-number-init : goal.loop-number-init
loop-number-init g c = record {
  best = first-tried _ _ _ _ (record { placed = c.in_ok-best.ensures.placed; estimate = c.in_ok-best.ensures.estimate });
  goes = c.in_ok-best.ensures.goes;
}

pub loop-number-preserved : goal.loop-number-preserved
loop-number-preserved g c = record {
  best = more-tried _ _ _ _ _ _ _ c.loop-number.invariant.best (record { placed = c.in_ok-other.ensures.placed; estimate = c.in_ok-other.ensures.estimate }) c.better-best.ensures;
  goes = g.met.W.Watch.goes_then _ _ _ c.loop-number.invariant.goes c.in_ok-other.ensures.goes;
}

pub returns-clause-placed : goal.returns-clause-placed
returns-clause-placed g c = taken-placed _ _ _ _ _ (omega arith) c.loop-number.invariant.best
