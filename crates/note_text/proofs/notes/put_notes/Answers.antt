use Rattle.note_text.proofs.notes.put_notes.Goals as goal
use Rattle.shelf_io.proofs.WroteLaws.{puts-behind, puts-failed}

pub returns-in_err-append_lines : goal.returns-in_err-append_lines
returns-in_err-append_lines g c =
    let e = rw c.lines.ensures at c.in_err-append_lines.ensures in
    puts-failed c.from_residual.result c.from_residual.ensures.0 e.place (rw c.new-buffer.ensures at e.failed)

pub returns : goal.returns
returns g c =
    let e = rw c.lines.ensures at c.in_ok-append_lines.ensures in
    puts-behind c.flush.result (g.met.K.Sink.place_then _ _ _ e.place) (g.met.K.Sink.same_then _ _ _) (rw c.new-buffer.ensures at e.wrote) c.flush.ensures.put
