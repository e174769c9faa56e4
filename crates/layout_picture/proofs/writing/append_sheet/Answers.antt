use Rattle.layout_picture.proofs.writing.append_sheet.Goals as goal
use Rattle.std.proofs.Common.{◌++◌}
use Rattle.shelf_io.proofs.WritesLaws.{writes-both, writes-stopped}
use Rattle.layout_picture.specs.Parts.{part_text}
use Rattle.layout_picture.specs.Pictures.{sheet_text}
use Rattle.layout_picture.specs.Styles.{styles_text}
use Rattle.layout_picture.specs.declared.texts.Part.TheVariants.{StylesEnd}

pub returns-in_err-append : goal.returns-in_err-append
unfolding sheet_text
returns-in_err-append g c =
    writes-stopped c.from_residual.result (styles_text 0 c.args.layers.now ++ part_text StylesEnd) c.from_residual.ensures.0 (rw c.text_of_part.ensures at c.in_err-append.ensures)

pub returns-in_err-append_styles : goal.returns-in_err-append_styles
unfolding sheet_text
returns-in_err-append_styles g c =
    let result = c.from_residual-in_err-append_styles.result in
    writes-both result (g.met.K.Sink.place_then _ _ _) (g.met.K.Sink.same_then _ _ _) (rw c.text_of_part.ensures at c.in_ok-append.ensures)
    (writes-stopped result (part_text StylesEnd) c.from_residual-in_err-append_styles.ensures.0 c.in_err-append_styles.ensures)

pub returns : goal.returns
unfolding sheet_text
returns g c =
    let result = c.append-2.result in
    writes-both result (g.met.K.Sink.place_then _ _ _) (g.met.K.Sink.same_then _ _ _) (rw c.text_of_part.ensures at c.in_ok-append.ensures)
    (writes-both result (g.met.K.Sink.place_then _ _ _) (g.met.K.Sink.same_then _ _ _) c.in_ok-append_styles.ensures (rw c.text_of_part-2.ensures at c.append-2.ensures))
