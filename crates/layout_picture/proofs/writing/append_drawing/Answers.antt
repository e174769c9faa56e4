use Rattle.layout_picture.proofs.writing.append_drawing.Goals as goal
use Rattle.std.proofs.Common.{◌++◌}
use Rattle.shelf_io.proofs.WritesLaws.{writes-both, writes-stopped}
use Rattle.layout_picture.specs.Cells.{cells_text}
use Rattle.layout_picture.specs.Elements.{shapes_text}
use Rattle.layout_picture.specs.Parts.{part_text}
use Rattle.layout_picture.specs.Pictures.{drawing_text}
use Rattle.layout_picture.specs.declared.texts.Part.TheVariants.{Cells, CellsEnd}

pub returns-in_err-append : goal.returns-in_err-append
unfolding drawing_text
returns-in_err-append g c =
    let result = c.from_residual.result in
    writes-stopped result (shapes_text c.args.frame.now c.args.layout.now.shapes ++ (part_text Cells ++ (cells_text c.args.frame.now c.args.layout.now c.args.layout.now.cells ++ part_text CellsEnd))) c.from_residual.ensures.0 (rw c.text_of_part.ensures at c.in_err-append.ensures)

pub returns-in_err-append_shapes : goal.returns-in_err-append_shapes
unfolding drawing_text
returns-in_err-append_shapes g c =
    let result = c.from_residual-in_err-append_shapes.result in
    writes-both result (g.met.K.Sink.place_then _ _ _) (g.met.K.Sink.same_then _ _ _) (rw c.text_of_part.ensures at c.in_ok-append.ensures)
    (writes-stopped result (part_text Cells ++ (cells_text c.args.frame.now c.args.layout.now c.args.layout.now.cells ++ part_text CellsEnd)) c.from_residual-in_err-append_shapes.ensures.0 (rw c.items.ensures at c.in_err-append_shapes.ensures))

pub returns-in_err-append-2 : goal.returns-in_err-append-2
unfolding drawing_text
returns-in_err-append-2 g c =
    let result = c.from_residual-in_err-append-2.result in
    writes-both result (g.met.K.Sink.place_then _ _ _) (g.met.K.Sink.same_then _ _ _) (rw c.text_of_part.ensures at c.in_ok-append.ensures)
    (writes-both result (g.met.K.Sink.place_then _ _ _) (g.met.K.Sink.same_then _ _ _) (rw c.items.ensures at c.in_ok-append_shapes.ensures)
    (writes-stopped result (cells_text c.args.frame.now c.args.layout.now c.args.layout.now.cells ++ part_text CellsEnd) c.from_residual-in_err-append-2.ensures.0 (rw c.text_of_part-2.ensures at c.in_err-append-2.ensures)))

pub returns-in_err-append_cells : goal.returns-in_err-append_cells
unfolding drawing_text
returns-in_err-append_cells g c =
    let result = c.from_residual-in_err-append_cells.result in
    writes-both result (g.met.K.Sink.place_then _ _ _) (g.met.K.Sink.same_then _ _ _) (rw c.text_of_part.ensures at c.in_ok-append.ensures)
    (writes-both result (g.met.K.Sink.place_then _ _ _) (g.met.K.Sink.same_then _ _ _) (rw c.items.ensures at c.in_ok-append_shapes.ensures)
    (writes-both result (g.met.K.Sink.place_then _ _ _) (g.met.K.Sink.same_then _ _ _) (rw c.text_of_part-2.ensures at c.in_ok-append-2.ensures)
    (writes-stopped result (part_text CellsEnd) c.from_residual-in_err-append_cells.ensures.0 (rw c.items-2.ensures at c.in_err-append_cells.ensures))))

pub returns : goal.returns
unfolding drawing_text
returns g c =
    let result = c.append-3.result in
    writes-both result (g.met.K.Sink.place_then _ _ _) (g.met.K.Sink.same_then _ _ _) (rw c.text_of_part.ensures at c.in_ok-append.ensures)
    (writes-both result (g.met.K.Sink.place_then _ _ _) (g.met.K.Sink.same_then _ _ _) (rw c.items.ensures at c.in_ok-append_shapes.ensures)
    (writes-both result (g.met.K.Sink.place_then _ _ _) (g.met.K.Sink.same_then _ _ _) (rw c.text_of_part-2.ensures at c.in_ok-append-2.ensures)
    (writes-both result (g.met.K.Sink.place_then _ _ _) (g.met.K.Sink.same_then _ _ _) (rw c.items-2.ensures at c.in_ok-append_cells.ensures)
    (rw c.text_of_part-3.ensures at c.append-3.ensures))))
