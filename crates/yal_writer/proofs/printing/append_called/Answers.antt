use Rattle.std.proofs.Common.{◌++◌}
use Rattle.shelf_io.proofs.WritesLaws.{writes-both, writes-stopped}
use Rattle.yal_writer.proofs.TextParts.{called-parts}
use Rattle.yal_writer.specs.ParentText.{word_end}
use Rattle.yal_writer.proofs.printing.append_called.Goals as goal

pub returns-in_err-append_both : goal.returns-in_err-append_both
returns-in_err-append_both g c =
    let x = c.args.call.now in
    rw (← called-parts x.name x.«module» (word_end x.signals))
    (writes-stopped c.from_residual.result (x.«module» ++ word_end x.signals) c.from_residual.ensures.0 (rw c.items.ensures at c.in_err-append_both.ensures))

pub returns : goal.returns
returns g c =
    let x = c.args.call.now in
    rw (← called-parts x.name x.«module» (word_end x.signals))
    (writes-both c.append_both-2.result (g.met.K.Sink.place_then _ _ _) (g.met.K.Sink.same_then _ _ _) (rw c.items.ensures at c.in_ok-append_both.ensures)
    (rw (c.items-2.ensures, c.word_end.ensures, c.items-3.ensures) at c.append_both-2.ensures))
