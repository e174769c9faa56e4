use Rattle.std.proofs.lemmas.List.Sorted.{IsPermutation-put_mid, IsPermutation-trans}
use Rattle.close_rects.proofs.order.order_parts.Goals as goal

pub loop-start-preserved : goal.loop-start-preserved
loop-start-preserved c =
    IsPermutation-trans _ _ _ c.loop-start.invariant (IsPermutation-put_mid _ _ _ _ c.order_part.ensures)
