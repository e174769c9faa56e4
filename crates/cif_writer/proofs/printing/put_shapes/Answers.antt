use Rattle.cif_writer.proofs.printing.put_shapes.Goals as goal
use Rattle.std.proofs.Common.{rules, ◌∙◌, List, ap, true}
use Rattle.std.proofs.lemmas.List.{nil_from_length}
use Rattle.cif_text.specs.Printing.{text_of}
use Rattle.cif_text.specs.Written.{shape_commands, shapes_commands}
use Rattle.cif_text.proofs.TextLemmas.{text_of-append}
use Rattle.geom_core.specs.declared.layout.Shape.{Shape}
use Rattle.shelf_io.proofs.SoFar.{so_far-begun, so_far-done, so_far-failed, so_far-more}

pub loop-shape-init : goal.loop-shape-init
loop-shape-init g c = record {
  so_far = so_far-begun _ c.args.buffer.now _ _ (g.met.K.Sink.place_here c.args.out.now) (g.met.K.Sink.same_here c.args.out.now);
  reach = c.requires;
}

pub returns-in_err-put_shape : goal.returns-in_err-put_shape
returns-in_err-put_shape g c =
    let parts = ap (λ (l : List Shape). text_of (shapes_commands c.loop-shape.last l)) c.in-Some.ensures.cases.0
    ∙ text_of-append (shape_commands c.loop-shape.last c.in-Some.shape.now) _ in
    so_far-failed c.from_residual.result _ (g.met.K.Sink.place_then _ _ _) (g.met.K.Sink.same_then _ _ _) c.from_residual.ensures.0
    c.loop-shape.invariant.so_far parts c.in_err-put_shape.ensures

pub loop-shape-preserved : goal.loop-shape-preserved
loop-shape-preserved g c =
    let parts = ap (λ (l : List Shape). text_of (shapes_commands c.loop-shape.last l)) c.in-Some.ensures.cases.0
    ∙ text_of-append (shape_commands c.loop-shape.last c.in-Some.shape.now) _ in
    record {
      so_far = so_far-more (g.met.K.Sink.place_then _ _ _) (g.met.K.Sink.same_then _ _ _ true) c.loop-shape.invariant.so_far parts c.in_ok-put_shape.ensures;
      reach = search rules;
    }

pub returns : goal.returns
returns g c =
    let none = ap (λ (l : List Shape). text_of (shapes_commands c.loop-shape.last l)) (nil_from_length c.loop-shape.rest.now c.in_default.ensures.cases) in
    so_far-done _ none c.loop-shape.invariant.so_far
