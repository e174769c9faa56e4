use Rattle.std.proofs.Common.{◌≡◌, length}
use Rattle.greedy_router.specs.Turns.{since_moved}
use Rattle.greedy_router.proofs.tables.note_moves.Given as goal

abbrev pub invariant-loop-pair : goal.invariant-loop-pair
invariant-loop-pair l = record { noted : since_moved l.column l.rest l.since ≡ since_moved l.column l.moves l.fn.since }

abbrev pub decreases-loop-pair : goal.decreases-loop-pair
decreases-loop-pair l = length l.rest
