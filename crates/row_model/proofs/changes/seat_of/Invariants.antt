use Rattle.std.proofs.Common.{◌≡◌, length}
use Rattle.row_model.specs.Changes.{seat_of}
use Rattle.row_model.proofs.changes.seat_of.Given as goal

abbrev pub invariant-loop-seats : goal.invariant-loop-seats
invariant-loop-seats l = seat_of l.rest l.instance ≡ seat_of l.fn.rows l.instance

abbrev pub decreases-loop-seats : goal.decreases-loop-seats
decreases-loop-seats l = length l.rest
