use Rattle.std.proofs.Common.{◌≡◌, ◌+◌, ◌-◌, true, length}
use Rattle.greedy_column.specs.State.{IsState}
use Rattle.greedy_router.specs.Idle.{IsIdleBefore}
use Rattle.greedy_router.proofs.CountLaws.{fresh_after}
use Rattle.greedy_router.proofs.GoingLaws.{IsRun}
use Rattle.greedy_router.proofs.running.run_columns.Given as goal

abbrev pub invariant-columns : goal.invariant-columns
invariant-columns g l = record {
  run : IsRun l.manner l.begun (g.C.Chooses.answers l.chooser) l.channel l.tracks l.extra l.columns.items l.state.fresh l.state.order;
  state : IsState l.channel l.state;
  fresh : l.state.fresh ≡ fresh_after (l.begun + 1) l.columns.items;
  idle : l.idle ≡ true → IsIdleBefore l.manner (g.C.Chooses.answers l.chooser) l.channel (length l.columns.items) l.state;
}

abbrev pub decreases-columns : goal.decreases-columns
decreases-columns g l = l.last + 1 - length l.columns.items
