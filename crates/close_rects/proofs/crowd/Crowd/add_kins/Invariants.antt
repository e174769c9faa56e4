use Rattle.std.proofs.Common.{◌≡◌}
use Rattle.close_rects.proofs.crowd.Crowd.add_kins.Given as goal

abbrev pub invariant-loop-b : goal.invariant-loop-b
invariant-loop-b l = l.self ≡ l.fn.self
