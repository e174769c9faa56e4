use Rattle.finding_markers.proofs.markers.put_markers.Goals as goal
use Rattle.std.proofs.Common.{◌++◌}
use Rattle.shelf_io.proofs.WroteLaws.{puts-behind}
use Rattle.shelf_io.proofs.WritesLaws.{puts-both, puts-stopped, puts-unwritten}
use Rattle.finding_markers.specs.Markers.{items_text, markers_text}
use Rattle.finding_markers.specs.Parts.{part_text}
use Rattle.finding_markers.specs.declared.texts.Part.TheVariants.{End}

pub returns-in_err-append : goal.returns-in_err-append
unfolding markers_text
returns-in_err-append g c =
    puts-stopped c.from_residual.result (items_text c.args.design.now c.args.layout.now c.args.findings.now ++ part_text End) c.from_residual.ensures.0
    (rw (c.new-buffer.ensures, c.text_of_part.ensures) at c.in_err-append.ensures)

pub returns-in_err-append_items : goal.returns-in_err-append_items
unfolding markers_text
returns-in_err-append_items g c =
    let result = c.from_residual-in_err-append_items.result in
    puts-both result (items_text c.args.design.now c.args.layout.now c.args.findings.now ++ part_text End) (g.met.K.Sink.place_then _ _ _) (g.met.K.Sink.same_then _ _ _)
    (rw (c.new-buffer.ensures, c.text_of_part.ensures) at c.in_ok-append.ensures)
    (puts-stopped result (part_text End) c.from_residual-in_err-append_items.ensures.0 c.in_err-append_items.ensures)

pub returns-in_err-append-2 : goal.returns-in_err-append-2
unfolding markers_text
returns-in_err-append-2 g c =
    let result = c.from_residual-in_err-append-2.result in
    puts-both result (items_text c.args.design.now c.args.layout.now c.args.findings.now ++ part_text End) (g.met.K.Sink.place_then _ _ _) (g.met.K.Sink.same_then _ _ _)
    (rw (c.new-buffer.ensures, c.text_of_part.ensures) at c.in_ok-append.ensures)
    (puts-both result (part_text End) (g.met.K.Sink.place_then _ _ _) (g.met.K.Sink.same_then _ _ _) c.in_ok-append_items.ensures
    (puts-unwritten result c.from_residual-in_err-append-2.ensures.0 (rw c.text_of_part-2.ensures at c.in_err-append-2.ensures)))

pub returns : goal.returns
unfolding markers_text
returns g c =
    let result = c.flush.result in
    let end = rw c.text_of_part-2.ensures at c.in_ok-append-2.ensures in
    puts-both result (items_text c.args.design.now c.args.layout.now c.args.findings.now ++ part_text End) (g.met.K.Sink.place_then _ _ _) (g.met.K.Sink.same_then _ _ _)
    (rw (c.new-buffer.ensures, c.text_of_part.ensures) at c.in_ok-append.ensures)
    (puts-both result (part_text End) (g.met.K.Sink.place_then _ _ _) (g.met.K.Sink.same_then _ _ _) c.in_ok-append_items.ensures
    (puts-behind result (g.met.K.Sink.place_then _ _ _ end.place) (g.met.K.Sink.same_then _ _ _) end.wrote c.flush.ensures.put))
