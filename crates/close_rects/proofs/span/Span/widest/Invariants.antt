use Rattle.std.proofs.Common.{◌-◌, ◌≤◌}
use Rattle.close_rects.proofs.span.Span.widest.Given as goal

abbrev pub invariant-loop-widest : goal.invariant-loop-widest
invariant-loop-widest l = l.fn.self.blocks ≤ l.widest.blocks

abbrev pub decreases-loop-widest : goal.decreases-loop-widest
decreases-loop-widest l = l.count - l.widest.blocks
