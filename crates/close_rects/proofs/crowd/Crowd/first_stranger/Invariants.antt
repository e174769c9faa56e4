use Rattle.std.proofs.Common.{◌-◌, ◌≤◌, length}
use Rattle.close_rects.specs.Kins.{NoneStrange}
use Rattle.close_rects.proofs.crowd.Crowd.first_stranger.Given as goal

abbrev pub invariant-loop-at : goal.invariant-loop-at
invariant-loop-at l = record { on : l.from ≤ l.at; none : NoneStrange l.self.members l.self.items l.window l.class l.from l.at }

abbrev pub decreases-loop-at : goal.decreases-loop-at
decreases-loop-at l = length l.self.items - l.at
