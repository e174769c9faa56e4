use Rattle.layout_picture.proofs.shapes.append_shape.Goals as goal
use Rattle.shelf_io.proofs.WritesLaws.{writes-both, writes-stopped}
use Rattle.layout_picture.specs.Elements.{shape_text, sides_text}

pub returns-in_err-append_pieces : goal.returns-in_err-append_pieces
unfolding shape_text
returns-in_err-append_pieces g c =
    writes-stopped c.from_residual.result (sides_text c.args.frame.now c.args.shape.now.rect) c.from_residual.ensures.0 (rw c.text.ensures.text at c.in_err-append_pieces.ensures)

pub returns : goal.returns
unfolding shape_text
returns g c =
    writes-both c.append_sides.result (g.met.K.Sink.place_then _ _ _) (g.met.K.Sink.same_then _ _ _) (rw c.text.ensures.text at c.in_ok-append_pieces.ensures) c.append_sides.ensures
