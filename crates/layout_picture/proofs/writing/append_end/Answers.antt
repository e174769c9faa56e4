use Rattle.layout_picture.proofs.writing.append_end.Goals as goal
use Rattle.std.proofs.Common.{◌++◌}
use Rattle.shelf_io.proofs.WritesLaws.{writes-both, writes-stopped}
use Rattle.layout_picture.specs.Legend.{entries_text}
use Rattle.layout_picture.specs.Parts.{part_text}
use Rattle.layout_picture.specs.Pictures.{end_text}
use Rattle.layout_picture.specs.declared.texts.Part.TheVariants.{End, Legend}

pub returns-in_err-append_scale : goal.returns-in_err-append_scale
unfolding end_text
returns-in_err-append_scale g c =
    let result = c.from_residual.result in
    writes-stopped result (part_text Legend ++ (entries_text c.args.roles.now c.args.layers.now ++ part_text End)) c.from_residual.ensures.0 (c.in_err-append_scale.ensures)

pub returns-in_err-append : goal.returns-in_err-append
unfolding end_text
returns-in_err-append g c =
    let result = c.from_residual-in_err-append.result in
    writes-both result (g.met.K.Sink.place_then _ _ _) (g.met.K.Sink.same_then _ _ _) (c.in_ok-append_scale.ensures)
    (writes-stopped result (entries_text c.args.roles.now c.args.layers.now ++ part_text End) c.from_residual-in_err-append.ensures.0 (rw c.text_of_part.ensures at c.in_err-append.ensures))

pub returns-in_err-append_entries : goal.returns-in_err-append_entries
unfolding end_text
returns-in_err-append_entries g c =
    let result = c.from_residual-in_err-append_entries.result in
    writes-both result (g.met.K.Sink.place_then _ _ _) (g.met.K.Sink.same_then _ _ _) (c.in_ok-append_scale.ensures)
    (writes-both result (g.met.K.Sink.place_then _ _ _) (g.met.K.Sink.same_then _ _ _) (rw c.text_of_part.ensures at c.in_ok-append.ensures)
    (writes-stopped result (part_text End) c.from_residual-in_err-append_entries.ensures.0 (c.in_err-append_entries.ensures)))

pub returns : goal.returns
unfolding end_text
returns g c =
    let result = c.append-2.result in
    writes-both result (g.met.K.Sink.place_then _ _ _) (g.met.K.Sink.same_then _ _ _) (c.in_ok-append_scale.ensures)
    (writes-both result (g.met.K.Sink.place_then _ _ _) (g.met.K.Sink.same_then _ _ _) (rw c.text_of_part.ensures at c.in_ok-append.ensures)
    (writes-both result (g.met.K.Sink.place_then _ _ _) (g.met.K.Sink.same_then _ _ _) (c.in_ok-append_entries.ensures)
    (rw c.text_of_part-2.ensures at c.append-2.ensures)))
