use Rattle.layout_picture.proofs.writing.put_picture.Goals as goal
use Rattle.std.proofs.Common.{◌++◌}
use Rattle.shelf_io.proofs.WroteLaws.{puts-behind}
use Rattle.shelf_io.proofs.WritesLaws.{puts-both, puts-stopped, puts-unwritten}
use Rattle.layout_picture.specs.Frame.{frame_of}
use Rattle.layout_picture.specs.Pictures.{drawing_text, end_text, opening_text, picture_text}
use Rattle.layout_picture.specs.Styles.{layers_of}

pub returns-in_err-append_sheet : goal.returns-in_err-append_sheet
unfolding picture_text
returns-in_err-append_sheet g c =
    let result = c.from_residual.result in
    puts-stopped result (opening_text (frame_of c.args.picture.now.layout.now c.args.picture.now.view) ++ (drawing_text (frame_of c.args.picture.now.layout.now c.args.picture.now.view) c.args.picture.now.layout.now ++ end_text (frame_of c.args.picture.now.layout.now c.args.picture.now.view) c.args.picture.now.view.roles (layers_of c.args.picture.now.layout.now.shapes))) c.from_residual.ensures.0
    (rw (c.new-buffer.ensures, c.layers.ensures) at c.in_err-append_sheet.ensures)

pub returns-in_err-append_opening : goal.returns-in_err-append_opening
unfolding picture_text
returns-in_err-append_opening g c =
    let result = c.from_residual-in_err-append_opening.result in
    puts-both result (opening_text (frame_of c.args.picture.now.layout.now c.args.picture.now.view) ++ (drawing_text (frame_of c.args.picture.now.layout.now c.args.picture.now.view) c.args.picture.now.layout.now ++ end_text (frame_of c.args.picture.now.layout.now c.args.picture.now.view) c.args.picture.now.view.roles (layers_of c.args.picture.now.layout.now.shapes))) (g.met.K.Sink.place_then _ _ _) (g.met.K.Sink.same_then _ _ _)
    (rw (c.new-buffer.ensures, c.layers.ensures) at c.in_ok-append_sheet.ensures)
    (puts-stopped result (drawing_text (frame_of c.args.picture.now.layout.now c.args.picture.now.view) c.args.picture.now.layout.now ++ end_text (frame_of c.args.picture.now.layout.now c.args.picture.now.view) c.args.picture.now.view.roles (layers_of c.args.picture.now.layout.now.shapes)) c.from_residual-in_err-append_opening.ensures.0
    (rw c.frame_of-frame.ensures at c.in_err-append_opening.ensures))

pub returns-in_err-append_drawing : goal.returns-in_err-append_drawing
unfolding picture_text
returns-in_err-append_drawing g c =
    let result = c.from_residual-in_err-append_drawing.result in
    puts-both result (opening_text (frame_of c.args.picture.now.layout.now c.args.picture.now.view) ++ (drawing_text (frame_of c.args.picture.now.layout.now c.args.picture.now.view) c.args.picture.now.layout.now ++ end_text (frame_of c.args.picture.now.layout.now c.args.picture.now.view) c.args.picture.now.view.roles (layers_of c.args.picture.now.layout.now.shapes))) (g.met.K.Sink.place_then _ _ _) (g.met.K.Sink.same_then _ _ _)
    (rw (c.new-buffer.ensures, c.layers.ensures) at c.in_ok-append_sheet.ensures)
    (puts-both result (drawing_text (frame_of c.args.picture.now.layout.now c.args.picture.now.view) c.args.picture.now.layout.now ++ end_text (frame_of c.args.picture.now.layout.now c.args.picture.now.view) c.args.picture.now.view.roles (layers_of c.args.picture.now.layout.now.shapes)) (g.met.K.Sink.place_then _ _ _) (g.met.K.Sink.same_then _ _ _)
    (rw c.frame_of-frame.ensures at c.in_ok-append_opening.ensures)
    (puts-stopped result (end_text (frame_of c.args.picture.now.layout.now c.args.picture.now.view) c.args.picture.now.view.roles (layers_of c.args.picture.now.layout.now.shapes)) c.from_residual-in_err-append_drawing.ensures.0
    (rw c.frame_of-frame.ensures at c.in_err-append_drawing.ensures)))

pub returns-in_err-append_end : goal.returns-in_err-append_end
unfolding picture_text
returns-in_err-append_end g c =
    let result = c.from_residual-in_err-append_end.result in
    puts-both result (opening_text (frame_of c.args.picture.now.layout.now c.args.picture.now.view) ++ (drawing_text (frame_of c.args.picture.now.layout.now c.args.picture.now.view) c.args.picture.now.layout.now ++ end_text (frame_of c.args.picture.now.layout.now c.args.picture.now.view) c.args.picture.now.view.roles (layers_of c.args.picture.now.layout.now.shapes))) (g.met.K.Sink.place_then _ _ _) (g.met.K.Sink.same_then _ _ _)
    (rw (c.new-buffer.ensures, c.layers.ensures) at c.in_ok-append_sheet.ensures)
    (puts-both result (drawing_text (frame_of c.args.picture.now.layout.now c.args.picture.now.view) c.args.picture.now.layout.now ++ end_text (frame_of c.args.picture.now.layout.now c.args.picture.now.view) c.args.picture.now.view.roles (layers_of c.args.picture.now.layout.now.shapes)) (g.met.K.Sink.place_then _ _ _) (g.met.K.Sink.same_then _ _ _)
    (rw c.frame_of-frame.ensures at c.in_ok-append_opening.ensures)
    (puts-both result (end_text (frame_of c.args.picture.now.layout.now c.args.picture.now.view) c.args.picture.now.view.roles (layers_of c.args.picture.now.layout.now.shapes)) (g.met.K.Sink.place_then _ _ _) (g.met.K.Sink.same_then _ _ _)
    (rw c.frame_of-frame.ensures at c.in_ok-append_drawing.ensures)
    (puts-unwritten result c.from_residual-in_err-append_end.ensures.0 (rw (c.frame_of-frame.ensures, c.layers-2.ensures) at c.in_err-append_end.ensures))))

pub returns : goal.returns
unfolding picture_text
returns g c =
    let result = c.flush.result in
    let end = rw (c.frame_of-frame.ensures, c.layers-2.ensures) at c.in_ok-append_end.ensures in
    puts-both result (opening_text (frame_of c.args.picture.now.layout.now c.args.picture.now.view) ++ (drawing_text (frame_of c.args.picture.now.layout.now c.args.picture.now.view) c.args.picture.now.layout.now ++ end_text (frame_of c.args.picture.now.layout.now c.args.picture.now.view) c.args.picture.now.view.roles (layers_of c.args.picture.now.layout.now.shapes))) (g.met.K.Sink.place_then _ _ _) (g.met.K.Sink.same_then _ _ _)
    (rw (c.new-buffer.ensures, c.layers.ensures) at c.in_ok-append_sheet.ensures)
    (puts-both result (drawing_text (frame_of c.args.picture.now.layout.now c.args.picture.now.view) c.args.picture.now.layout.now ++ end_text (frame_of c.args.picture.now.layout.now c.args.picture.now.view) c.args.picture.now.view.roles (layers_of c.args.picture.now.layout.now.shapes)) (g.met.K.Sink.place_then _ _ _) (g.met.K.Sink.same_then _ _ _)
    (rw c.frame_of-frame.ensures at c.in_ok-append_opening.ensures)
    (puts-both result (end_text (frame_of c.args.picture.now.layout.now c.args.picture.now.view) c.args.picture.now.view.roles (layers_of c.args.picture.now.layout.now.shapes)) (g.met.K.Sink.place_then _ _ _) (g.met.K.Sink.same_then _ _ _)
    (rw c.frame_of-frame.ensures at c.in_ok-append_drawing.ensures)
    (puts-behind result (g.met.K.Sink.place_then _ _ _ end.place) (g.met.K.Sink.same_then _ _ _) end.wrote c.flush.ensures.put)))
