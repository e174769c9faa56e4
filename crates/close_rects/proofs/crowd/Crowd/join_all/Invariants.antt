use Rattle.std.proofs.Common.{◌≡◌}
use Rattle.close_rects.proofs.crowd.Crowd.join_all.Given as goal

abbrev pub invariant-loop-b : goal.invariant-loop-b
invariant-loop-b l = l.self ≡ l.fn.self

abbrev pub decreases-loop-b : goal.decreases-loop-b
decreases-loop-b l = l.b
