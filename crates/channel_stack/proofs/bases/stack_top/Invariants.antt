use Rattle.std.proofs.Common.{◌≡◌, length, map}
use Rattle.channel_stack.specs.Stack.{stack_top}
use Rattle.channel_stack.proofs.bases.stack_top.Given as goal

abbrev pub invariant-loop-one : goal.invariant-loop-one
invariant-loop-one g l = stack_top l.rules l.rows l.base (map g.W.HasWiring.wiring_of l.rest) ≡ stack_top l.rules l.heights 0 (map g.W.HasWiring.wiring_of l.wirings)

abbrev pub decreases-loop-one : goal.decreases-loop-one
decreases-loop-one g l = length l.rest
