use Rattle.std.proofs.Common.{take}
use Rattle.greedy_router.specs.Answers.{IsPlanned}
use Rattle.greedy_router.specs.Runs.{routed_of}
use Rattle.greedy_router.proofs.planning.best_run.Given as goal

abbrev pub invariant-loop-share : goal.invariant-loop-share
invariant-loop-share g l =
    IsPlanned (record { manner = l.plan.manner; first = l.plan.first; others = take l.share-index l.plan.others })
    (g.C.Chooses.answers l.chooser) l.surveyed.channel.now (routed_of l.best)
