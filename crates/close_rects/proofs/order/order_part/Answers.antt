use Rattle.close_rects.proofs.order.order_part.Goals as goal

pub returns-then-spread : goal.returns-then-spread
returns-then-spread c = c.sort_unstable_by_key.ensures.permutation

pub returns-else-spread : goal.returns-else-spread
returns-else-spread c = c.sort_unstable_by_key-else-spread.ensures.permutation
