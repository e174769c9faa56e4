use Rattle.close_rects.proofs.Sets.{left_moved}
use Rattle.close_rects.proofs.rect_set.RectSet.new.Goals as goal

pub returns : goal.returns
returns c = left_moved _ _ (rw (← c.in_ok-of.ensures, c.in_ok-numbered.ensures.numbered) at c.ordered-items.ensures)
