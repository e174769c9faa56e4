use Rattle.layout_picture.proofs.shapes.append_shapes.Goals as goal
use Rattle.std.proofs.Common.{◌≡◌, ◌++◌, ◌∷◌, ◌∙◌, List, [], ap, true}
use Rattle.std.proofs.lemmas.List.{nil_from_length}
use Rattle.shelf_io.proofs.SoFar.{so_far-begun, so_far-done, so_far-failed, so_far-more}
use Rattle.geom_core.specs.Extent.{Extent}
use Rattle.geom_core.specs.declared.layout.Shape.{Shape}
use Rattle.layout_picture.specs.Elements.{shape_text, shapes_text, shown_text}
use Rattle.layout_picture.specs.Frame.{do_meet}
use Rattle.layout_picture.proofs.Filtered.{filtered-first}

-- what is written of some shapes is that of the first and that of the others
shapes-first : (f : Extent) (ss : List Shape) (s : Shape) (rest : List Shape) → ss ≡ s ∷ rest → shapes_text f ss ≡ shown_text f s ++ shapes_text f rest
shapes-first f ss s rest is = ap (shapes_text f) is ∙ filtered-first (λ (t : Shape). do_meet f t.rect) (shape_text f) s rest

shapes-none : (f : Extent) (ss : List Shape) → ss ≡ [] → shapes_text f ss ≡ []
shapes-none f ss is = ap (shapes_text f) is

pub loop-shape-init : goal.loop-shape-init
loop-shape-init g c = so_far-begun _ c.args.buffer.now _ _ (g.met.K.Sink.place_here c.args.out.now) (g.met.K.Sink.same_here c.args.out.now)

pub returns-in_err-append_shown : goal.returns-in_err-append_shown
returns-in_err-append_shown g c =
    let parts = shapes-first c.args.frame.now c.loop-shape.rest.now c.in-Some.shape.now c.in-Some.after.now c.in-Some.ensures.cases.0 in
    so_far-failed c.from_residual.result _ (g.met.K.Sink.place_then _ _ _) (g.met.K.Sink.same_then _ _ _) c.from_residual.ensures.0 c.loop-shape.invariant parts c.in_err-append_shown.ensures

pub loop-shape-preserved : goal.loop-shape-preserved
loop-shape-preserved g c =
    let parts = shapes-first c.args.frame.now c.loop-shape.rest.now c.in-Some.shape.now c.in-Some.after.now c.in-Some.ensures.cases.0 in
    so_far-more (g.met.K.Sink.place_then _ _ _) (g.met.K.Sink.same_then _ _ _ true) c.loop-shape.invariant parts c.in_ok-append_shown.ensures

pub returns : goal.returns
returns g c =
    let none = shapes-none c.args.frame.now c.loop-shape.rest.now (nil_from_length c.loop-shape.rest.now c.in_default.ensures.cases) in
    so_far-done _ none c.loop-shape.invariant
