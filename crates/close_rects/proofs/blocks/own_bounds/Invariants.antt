use Rattle.std.proofs.Common.{◌*◌}
use Rattle.close_rects.specs.Blocks.{Covers}
use Rattle.close_rects.proofs.blocks.own_bounds.Given as goal

abbrev pub invariant-loop-at : goal.invariant-loop-at
invariant-loop-at l = Covers l.items (8 * l.b) l.at l.bounds
