use Rattle.std.proofs.lemmas.List.Sorted.{IsPermutation-trans}
use Rattle.close_rects.proofs.order.order.Goals as goal

pub loop-size-2-preserved : goal.loop-size-2-preserved
loop-size-2-preserved c = IsPermutation-trans _ _ _ c.loop-size-2.invariant c.order_parts.ensures
