use Rattle.std.proofs.Common.{◌≡◌, length}
use Rattle.greedy_router.specs.Turns.{freed_by}
use Rattle.greedy_router.proofs.tables.free_all.Given as goal

abbrev pub invariant-loop-id : goal.invariant-loop-id
invariant-loop-id l = record { freed : freed_by l.rest l.table ≡ freed_by l.ended l.fn.table }

abbrev pub decreases-loop-id : goal.decreases-loop-id
decreases-loop-id l = length l.rest
