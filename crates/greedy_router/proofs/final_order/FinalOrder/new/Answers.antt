use Rattle.std.proofs.Common.{arith}
use Rattle.greedy_router.proofs.final_order.FinalOrder.new.Goals as goal

pub invariant_of-result : goal.invariant_of-result
invariant_of-result c = record {
  few = c.requires.few;
  told = c.in_ok-lines.ensures.tells;
  below = λ id member. let less = c.requires.below id member in omega (arith, less, c.in_ok-lines.ensures.long);
}
