use Rattle.row_board.proofs.StandingLaws.{AreEnteredTo}
use Rattle.row_board.proofs.building.enter_row.Given as goal

abbrev pub invariant-loop-place : goal.invariant-loop-place
invariant-loop-place l = AreEnteredTo l.design l.row 0 l.place l.seats l.left l.initial.standings l.standings
