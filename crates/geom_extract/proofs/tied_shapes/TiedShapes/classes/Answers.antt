use Rattle.std.proofs.Common.{◌∙◌}
use Rattle.std.proofs.lemmas.Result.{IfOk-weaker}
use Rattle.geom_extract.proofs.ShapeWebs.{classes-connected, in-range, in-reach, web-asks}
use Rattle.geom_extract.proofs.tied_shapes.TiedShapes.classes.Goals as goal

pub returns-clause-len : goal.returns-clause-len
returns-clause-len c = IfOk-weaker c.all.result _ _ (λ v len. len ∙ web-asks _ _ _ c.in_ok-web.web c.in_ok-web.ensures) c.all.ensures.len

pub returns-clause-classes : goal.returns-clause-classes
returns-clause-classes c =
    let i = c.self.inside in
    let of = rw (← c.self.view_is) at c.in_ok-web.ensures in
    rw (← c.self.view_is) (IfOk-weaker c.all.result _ _
    (λ v exact. classes-connected i.rules.now i.shapes.now i.ties.now c.in_ok-web.web v.items of
    (in-reach _ c.self.invariant.reach) (rw (← c.rules.view_is) c.rules.invariant.layers) (in-range _ _ c.self.invariant.ties) exact) c.all.ensures.classes)
