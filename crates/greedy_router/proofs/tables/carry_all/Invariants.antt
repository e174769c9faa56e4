use Rattle.std.proofs.Common.{◌≡◌, length}
use Rattle.greedy_router.specs.Turns.{moved_by}
use Rattle.greedy_router.proofs.tables.carry_all.Given as goal

abbrev pub invariant-loop-pair : goal.invariant-loop-pair
invariant-loop-pair l = record { carried : moved_by l.rest l.table ≡ moved_by l.moves l.fn.table }

abbrev pub decreases-loop-pair : goal.decreases-loop-pair
decreases-loop-pair l = length l.rest
