use Rattle.finding_markers.proofs.items.append_item.Goals as goal
use Rattle.std.proofs.Common.{◌++◌}
use Rattle.command_ends.specs.FindingLines.{finding_words}
use Rattle.shelf_io.proofs.WritesLaws.{writes-both, writes-stopped}
use Rattle.finding_markers.specs.Markers.{boxes_text, item_text, words_text}
use Rattle.finding_markers.specs.Places.{places_of}
use Rattle.finding_markers.specs.Parts.{part_text}
use Rattle.finding_markers.specs.declared.texts.Part.TheVariants.{ItemEnd, TextEnd}

pub returns-in_err-append_three : goal.returns-in_err-append_three
unfolding item_text
returns-in_err-append_three g c =
    let words = words_text (finding_words c.args.design.now c.args.layout.now c.args.finding) in
    let boxes = boxes_text (places_of c.args.design.now c.args.layout.now c.args.finding) in
    writes-stopped c.from_residual.result (words ++ (part_text TextEnd ++ (boxes ++ part_text ItemEnd))) c.from_residual.ensures.0 (rw (c.text_of_part.ensures, c.category.ensures, c.text_of_part-2.ensures) at c.in_err-append_three.ensures)

pub returns-in_err-append_finding_words : goal.returns-in_err-append_finding_words
unfolding item_text
returns-in_err-append_finding_words g c =
    let boxes = boxes_text (places_of c.args.design.now c.args.layout.now c.args.finding) in
    let result = c.from_residual-in_err-append_finding_words.result in
    writes-both result (g.met.K.Sink.place_then _ _ _) (g.met.K.Sink.same_then _ _ _) (rw (c.text_of_part.ensures, c.category.ensures, c.text_of_part-2.ensures) at c.in_ok-append_three.ensures)
    (writes-stopped result (part_text TextEnd ++ (boxes ++ part_text ItemEnd)) c.from_residual-in_err-append_finding_words.ensures.0 c.in_err-append_finding_words.ensures)

pub returns-in_err-append : goal.returns-in_err-append
unfolding item_text
returns-in_err-append g c =
    let boxes = boxes_text (places_of c.args.design.now c.args.layout.now c.args.finding) in
    let result = c.from_residual-in_err-append.result in
    writes-both result (g.met.K.Sink.place_then _ _ _) (g.met.K.Sink.same_then _ _ _) (rw (c.text_of_part.ensures, c.category.ensures, c.text_of_part-2.ensures) at c.in_ok-append_three.ensures)
    (writes-both result (g.met.K.Sink.place_then _ _ _) (g.met.K.Sink.same_then _ _ _) c.in_ok-append_finding_words.ensures
    (writes-stopped result (boxes ++ part_text ItemEnd) c.from_residual-in_err-append.ensures.0 (rw c.text_of_part-3.ensures at c.in_err-append.ensures)))

pub returns-in_err-append_places : goal.returns-in_err-append_places
unfolding item_text
returns-in_err-append_places g c =
    let result = c.from_residual-in_err-append_places.result in
    writes-both result (g.met.K.Sink.place_then _ _ _) (g.met.K.Sink.same_then _ _ _) (rw (c.text_of_part.ensures, c.category.ensures, c.text_of_part-2.ensures) at c.in_ok-append_three.ensures)
    (writes-both result (g.met.K.Sink.place_then _ _ _) (g.met.K.Sink.same_then _ _ _) c.in_ok-append_finding_words.ensures
    (writes-both result (g.met.K.Sink.place_then _ _ _) (g.met.K.Sink.same_then _ _ _) (rw c.text_of_part-3.ensures at c.in_ok-append.ensures)
    (writes-stopped result (part_text ItemEnd) c.from_residual-in_err-append_places.ensures.0 c.in_err-append_places.ensures)))

pub returns : goal.returns
unfolding item_text
returns g c =
    let result = c.append-2.result in
    writes-both result (g.met.K.Sink.place_then _ _ _) (g.met.K.Sink.same_then _ _ _) (rw (c.text_of_part.ensures, c.category.ensures, c.text_of_part-2.ensures) at c.in_ok-append_three.ensures)
    (writes-both result (g.met.K.Sink.place_then _ _ _) (g.met.K.Sink.same_then _ _ _) c.in_ok-append_finding_words.ensures
    (writes-both result (g.met.K.Sink.place_then _ _ _) (g.met.K.Sink.same_then _ _ _) (rw c.text_of_part-3.ensures at c.in_ok-append.ensures)
    (writes-both result (g.met.K.Sink.place_then _ _ _) (g.met.K.Sink.same_then _ _ _) c.in_ok-append_places.ensures (rw c.text_of_part-4.ensures at c.append-2.ensures))))
