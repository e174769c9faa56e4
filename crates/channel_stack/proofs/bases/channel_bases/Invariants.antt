use Rattle.std.proofs.Common.{◌≡◌, ◌<◌, ◌^◌, ◌++◌, length, map}
use Rattle.channel_stack.specs.Stack.{channel_bases, stack_top}
use Rattle.channel_stack.proofs.bases.channel_bases.Given as goal

abbrev pub invariant-loop-one : goal.invariant-loop-one
invariant-loop-one g l = record {
  so_far : l.bases.items ++ channel_bases l.rules l.rows l.base (map g.W.HasWiring.wiring_of l.rest) ≡ channel_bases l.rules l.heights 0 (map g.W.HasWiring.wiring_of l.wirings);
  small : stack_top l.rules l.rows l.base (map g.W.HasWiring.wiring_of l.rest) < 2 ^ 32;
}

abbrev pub decreases-loop-one : goal.decreases-loop-one
decreases-loop-one g l = length l.rest
