use Rattle.std.proofs.Common.{arith}
use Rattle.geom_extract.proofs.ShapeWebs.{in-range, in-reach, shape-web}
use Rattle.geom_extract.proofs.tied_shapes.TiedShapes.web.Goals as goal

pub invariant_of-result : goal.invariant_of-result
invariant_of-result c =
    let i = c.self.inside in
    shape-web i.rules.now i.shapes.now i.ties.now _ (record {
      rects = rw (← c.self.view_is) at c.in_ok-rects.ensures;
      ends = rw (← c.self.view_is) at c.in_ok-ends.ensures;
      asks = rw (← c.self.view_is) at c.in_ok-asks.ensures;
    }) (rw (← c.rules.view_is) c.rules.invariant.layers) (in-reach _ c.self.invariant.reach) (in-range _ _ c.self.invariant.ties) c.self.invariant.few
    (omega arith)
