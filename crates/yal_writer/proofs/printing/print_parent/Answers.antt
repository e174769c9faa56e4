use Rattle.shelf_io.proofs.WroteLaws.{puts-behind, puts-failed}
use Rattle.yal_writer.proofs.ReadBack.{reads-back}
use Rattle.yal_writer.proofs.printing.print_parent.Goals as goal

pub returns-in_err-append_parent : goal.returns-in_err-append_parent
returns-in_err-append_parent g c =
    let e = c.in_err-append_parent.ensures in
    record { puts = puts-failed c.from_residual.result c.from_residual.ensures.0 e.place (rw c.new-buffer.ensures at e.failed); reads = reads-back c.args.parent.now }

pub returns : goal.returns
returns g c =
    let e = c.in_ok-append_parent.ensures in
    record {
      puts = puts-behind c.flush.result (g.met.K.Sink.place_then _ _ _ e.place) (g.met.K.Sink.same_then _ _ _) (rw c.new-buffer.ensures at e.wrote) c.flush.ensures.put;
      reads = reads-back c.args.parent.now;
    }
