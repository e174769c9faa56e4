use Rattle.std.proofs.Common.{◌≡◌, ◌++◌, map, take, drop}
use Rattle.row_model.specs.Changes.{turned}
use Rattle.row_model.proofs.changes.turn_in.Given as goal

abbrev pub invariant-loop-seat : goal.invariant-loop-seat
invariant-loop-seat l = l.seats ≡ map (turned l.instance) (take l.seat-index l.initial.seats) ++ drop l.seat-index l.initial.seats
