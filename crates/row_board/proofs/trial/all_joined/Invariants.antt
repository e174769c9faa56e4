use Rattle.std.proofs.Common.{◌≡◌, ◌≤◌, ◌+◌, ◌*◌, length, map}
use Rattle.row_model.specs.declared.rows.Seat.{Seat}
use Rattle.row_board.specs.Trial.{instances_instead, joined, marked_in, AreInstances}
use Rattle.row_board.proofs.trial.all_joined.Given as goal

abbrev pub invariant-loop-seat : goal.invariant-loop-seat
invariant-loop-seat l = record {
  there : AreInstances l.costs.design (map (λ (s : Seat). s.instance) l.rest);
  is : l.found + marked_in l.costs.design (joined l.costs.design) (map (λ (s : Seat). s.instance) l.rest)
      ≡ marked_in l.costs.design (joined l.costs.design) (instances_instead l.a l.b l.seats);
  short : length l.rest ≤ length l.seats;
  few : l.found + 200000 * length l.rest ≤ 200000 * length l.seats;
}

abbrev pub decreases-loop-seat : goal.decreases-loop-seat
decreases-loop-seat l = length l.rest
