use Rattle.shelf_io.proofs.WritesLaws.{writes-both, writes-stopped}
use Rattle.yal_writer.proofs.printing.append_both.Goals as goal

pub returns-in_err-append : goal.returns-in_err-append
returns-in_err-append g c = writes-stopped c.from_residual.result c.args.second.now c.from_residual.ensures.0 c.in_err-append.ensures

pub returns : goal.returns
returns g c = writes-both c.append-2.result (g.met.K.Sink.place_then _ _ _) (g.met.K.Sink.same_then _ _ _) c.in_ok-append.ensures c.append-2.ensures
