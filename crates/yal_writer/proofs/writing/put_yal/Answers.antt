use Rattle.shelf_io.proofs.WroteLaws.{puts-behind}
use Rattle.shelf_io.proofs.WritesLaws.{puts-both, puts-stopped, puts-unwritten}
use Rattle.yal_writer.specs.ParentText.{parent_text}
use Rattle.yal_writer.proofs.writing.put_yal.Goals as goal

pub returns-in_err-append : goal.returns-in_err-append
returns-in_err-append g c =
    puts-stopped c.from_residual.result (parent_text c.args.parent.now) c.from_residual.ensures.0 (rw c.new-buffer.ensures at c.in_err-append.ensures)

pub returns-in_err-append_parent : goal.returns-in_err-append_parent
returns-in_err-append_parent g c =
    let result = c.from_residual-in_err-append_parent.result in
    puts-both result (parent_text c.args.parent.now) (g.met.K.Sink.place_then _ _ _) (g.met.K.Sink.same_then _ _ _) (rw c.new-buffer.ensures at c.in_ok-append.ensures)
    (puts-unwritten result c.from_residual-in_err-append_parent.ensures.0 c.in_err-append_parent.ensures)

pub returns : goal.returns
returns g c =
    let end = c.in_ok-append_parent.ensures in
    puts-both c.flush.result (parent_text c.args.parent.now) (g.met.K.Sink.place_then _ _ _) (g.met.K.Sink.same_then _ _ _) (rw c.new-buffer.ensures at c.in_ok-append.ensures)
    (puts-behind c.flush.result (g.met.K.Sink.place_then _ _ _ end.place) (g.met.K.Sink.same_then _ _ _) end.wrote c.flush.ensures.put)
