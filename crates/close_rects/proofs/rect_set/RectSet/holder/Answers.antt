use Rattle.close_rects.proofs.Sets.{NoneIn-inside_out, NoneIn-left, IsHeldBy-met}
use Rattle.close_rects.proofs.rect_set.RectSet.holder.Goals as goal

pub returns-in_err-at-clause-none : goal.returns-in_err-at-clause-none
returns-in_err-at-clause-none c = rw (c.from_residual.ensures, ← c.self.view_is)
    (NoneIn-inside_out _ _ (NoneIn-left _ _ (rw c.inside_out-window.ensures at c.in_err-at.ensures.none)))

pub returns-clause-found : goal.returns-clause-found
returns-clause-found c =
    let is = rw c.items.ensures at c.at.ensures.is in
    rw (← c.self.view_is)
    (IsHeldBy-met c.self.inside.indexed c.in_ok-at.at _ _ is (rw c.inside_out-window.ensures at (c.in_ok-at.ensures.first.met _ is)))
