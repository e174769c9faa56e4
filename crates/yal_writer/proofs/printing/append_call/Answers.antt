use Rattle.shelf_io.proofs.WritesLaws.{writes-both, writes-stopped}
use Rattle.yal_writer.proofs.TextParts.{call-parts}
use Rattle.yal_writer.specs.ParentText.{statement}
use Rattle.yal_writer.proofs.printing.append_call.Goals as goal

pub returns-in_err-append_called : goal.returns-in_err-append_called
returns-in_err-append_called g c =
    rw (← call-parts c.args.call.now) (writes-stopped c.from_residual.result (statement c.args.call.now.signals) c.from_residual.ensures.0 c.in_err-append_called.ensures)

pub returns : goal.returns
returns g c =
    rw (← call-parts c.args.call.now)
    (writes-both c.append_words.result (g.met.K.Sink.place_then _ _ _) (g.met.K.Sink.same_then _ _ _) c.in_ok-append_called.ensures (rw c.items.ensures at c.append_words.ensures))
