use Rattle.geom_extract.proofs.tied_shapes.TiedShapes.ends.Goals as goal
use Rattle.std.proofs.Common.{◌∙◌, [], ◌∷◌, ◌++◌, ap, sym}
use Rattle.std_laws.proofs.Ranges.{numbers-more}

pub loop-k-preserved : goal.loop-k-preserved
loop-k-preserved c = c.in_ok-push.ensures.items ∙ ap (λ t. t ++ c.loop-k.k ∷ []) c.loop-k.invariant ∙ sym (numbers-more c.loop-k.k)
