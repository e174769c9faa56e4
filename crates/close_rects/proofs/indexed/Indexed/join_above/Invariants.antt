use Rattle.std.proofs.Common.{◌≡◌, ◌-◌}
use Rattle.close_rects.proofs.indexed.Indexed.join_above.Given as goal

abbrev pub invariant-loop-span : goal.invariant-loop-span
invariant-loop-span l = l.self ≡ l.fn.self

abbrev pub decreases-loop-span : goal.decreases-loop-span
decreases-loop-span l = l.count - l.span.blocks
