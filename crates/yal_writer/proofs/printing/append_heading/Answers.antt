use Rattle.std.proofs.Common.{codes}
use Rattle.shelf_io.proofs.WritesLaws.{writes-both, writes-stopped}
use Rattle.yal_writer.proofs.TextParts.{heading-parts}
use Rattle.yal_writer.proofs.printing.append_heading.Goals as goal

pub returns-in_err-append_both : goal.returns-in_err-append_both
returns-in_err-append_both g c =
    rw (← heading-parts c.args.name.now) (writes-stopped c.from_residual.result (codes ";\nTYPE PARENT;\nIOLIST;\n") c.from_residual.ensures.0 (rw c.items.ensures at c.in_err-append_both.ensures))

pub returns : goal.returns
returns g c =
    rw (← heading-parts c.args.name.now)
    (writes-both c.append.result (g.met.K.Sink.place_then _ _ _) (g.met.K.Sink.same_then _ _ _) (rw c.items.ensures at c.in_ok-append_both.ensures) c.append.ensures)
