use Rattle.std.proofs.Common.{◌≡◌, ◌<◌, ◌^◌, ◌++◌, length, map}
use Rattle.channel_stack.specs.Stack.{row_bases, stack_top}
use Rattle.channel_stack.proofs.bases.row_bases.Given as goal

abbrev pub invariant-loop-height : goal.invariant-loop-height
invariant-loop-height g l = record {
  so_far : l.bases.items ++ row_bases l.rules l.rows l.base (map g.W.HasWiring.wiring_of l.rest) ≡ row_bases l.rules l.heights 0 (map g.W.HasWiring.wiring_of l.wirings);
  small : stack_top l.rules l.rows l.base (map g.W.HasWiring.wiring_of l.rest) < 2 ^ 32;
}

abbrev pub decreases-loop-height : goal.decreases-loop-height
decreases-loop-height g l = length l.rows
