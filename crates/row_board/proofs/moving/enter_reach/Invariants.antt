use Rattle.std.proofs.Common.{◌≡◌, ◌≤◌, length}
use Rattle.row_board.specs.Standings.{AreApart}
use Rattle.row_board.proofs.StandingLaws.{AreEnteredTo}
use Rattle.row_board.proofs.moving.enter_reach.Given as goal

abbrev pub invariant-loop-place : goal.invariant-loop-place
invariant-loop-place l = record {
  apart : AreApart (length l.fn.costs.standings) l.seats;
  short : length l.seats ≤ 20000;
  rest : l.costs ≡ record l.fn.costs { standings = l.costs.standings };
  so_far : AreEnteredTo l.fn.costs.design l.reach.row l.reach.from l.place l.seats l.left l.fn.costs.standings l.costs.standings;
}
