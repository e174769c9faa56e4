use Rattle.std.proofs.Common.{◌-◌, ◌≤◌, length}
use Rattle.close_rects.specs.Blocks.{NoneMet}
use Rattle.close_rects.proofs.indexed.Indexed.first_meeting.Given as goal

abbrev pub invariant-loop-at : goal.invariant-loop-at
invariant-loop-at l = record { on : l.from ≤ l.at; none : NoneMet l.self l.window l.from l.at }

abbrev pub decreases-loop-at : goal.decreases-loop-at
decreases-loop-at l = length l.self - l.at
