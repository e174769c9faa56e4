use Rattle.std.proofs.Common.{◌≡◌, ◌++◌, map, take, drop}
use Rattle.row_model.specs.Changes.{exchanged}
use Rattle.row_model.proofs.changes.exchange_in.Given as goal

abbrev pub invariant-loop-seat : goal.invariant-loop-seat
invariant-loop-seat l = l.seats ≡ map (exchanged l.a l.b) (take l.seat-index l.initial.seats) ++ drop l.seat-index l.initial.seats
