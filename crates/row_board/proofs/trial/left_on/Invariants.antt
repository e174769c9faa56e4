use Rattle.std.proofs.Common.{◌≡◌, ◌≤◌, ◌+◌, ◌*◌, length, map}
use Rattle.row_model.specs.declared.rows.Seat.{Seat}
use Rattle.row_board.specs.Extreme.{across}
use Rattle.row_board.specs.Trial.{ends_net, ends_net_alone, instances_instead, joined, marked_in, AreInstances}
use Rattle.row_board.proofs.trial.left_on.Given as goal

abbrev pub invariant-loop-seat : goal.invariant-loop-seat
invariant-loop-seat l = record {
  there : AreInstances l.costs.design (map (λ (s : Seat). s.instance) l.rest);
  over : l.found.over + marked_in l.costs.design (ends_net l.costs.design l.costs.standings l.side) (map (λ (s : Seat). s.instance) l.rest)
      ≡ l.excess + marked_in l.costs.design (ends_net l.costs.design l.costs.standings l.side) (instances_instead l.a l.b l.seats);
  under : l.found.under + (marked_in l.costs.design (joined l.costs.design) (map (λ (s : Seat). s.instance) l.rest)
      + marked_in l.costs.design (ends_net_alone l.costs.design l.costs.standings (across l.side)) (map (λ (s : Seat). s.instance) l.rest))
      ≡ marked_in l.costs.design (joined l.costs.design) (instances_instead l.a l.b l.seats)
      + marked_in l.costs.design (ends_net_alone l.costs.design l.costs.standings (across l.side)) (instances_instead l.a l.b l.seats);
  few : l.found.over + 200000 * length l.rest ≤ l.excess + 200000 * length l.seats;
  few_under : l.found.under + 400000 * length l.rest ≤ 400000 * length l.seats;
}

abbrev pub decreases-loop-seat : goal.decreases-loop-seat
decreases-loop-seat l = length l.rest
