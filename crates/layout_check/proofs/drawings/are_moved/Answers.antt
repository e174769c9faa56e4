use Rattle.std.proofs.Common.{◌&&◌, ◌∙◌, List, map, ap, ap₂, sym}
use Rattle.std.proofs.lemmas.List.Elements.{All-rest}
use Rattle.geom_core.specs.Moving.{moved_shape}
use Rattle.geom_core.specs.Reach.{IsShapeInReach}
use Rattle.geom_core.specs.declared.layout.Shape.{Shape}
use Rattle.layout_check.specs.CellFaults.{are_shapes}
use Rattle.layout_check.proofs.drawings.are_moved.Goals as goal

pub loop-shape-preserved : goal.loop-shape-preserved
loop-shape-preserved c = record {
  same = c.loop-shape.invariant.same
      ∙ ap₂ (λ (ss ts : List Shape). are_shapes ss (map (moved_shape c.args.turn.now) ts)) c.in-Some.ensures.cases.0 c.in-Some-split_first.ensures.cases.0
      ∙ ap (λ t. t && are_shapes c.in-Some.after.now (map (moved_shape c.args.turn.now) c.in-Some-split_first.later.now)) (sym c.if-not-is_moved.ensures);
  reach = All-rest IsShapeInReach c.in-Some-split_first.next.now c.in-Some-split_first.later.now c.loop-shape.left.now c.in-Some-split_first.ensures.cases.0
      c.loop-shape.invariant.reach;
}
