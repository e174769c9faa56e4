use Rattle.std.proofs.Common.{◌++◌, append_assoc, codes}
use Rattle.shelf_io.proofs.WritesLaws.{writes-both, writes-stopped}
use Rattle.yal_writer.specs.ParentText.{flow_word}
use Rattle.yal_writer.proofs.printing.append_line.Goals as goal

pub returns-in_err-append_both : goal.returns-in_err-append_both
returns-in_err-append_both g c =
    let l = c.args.line.now in
    rw (← append_assoc l.name (codes " ") (flow_word l.flow ++ codes ";\n"))
    (writes-stopped c.from_residual.result (flow_word l.flow ++ codes ";\n") c.from_residual.ensures.0 (rw c.items.ensures at c.in_err-append_both.ensures))

pub returns : goal.returns
returns g c =
    let l = c.args.line.now in
    rw (← append_assoc l.name (codes " ") (flow_word l.flow ++ codes ";\n"))
    (writes-both c.append_both-2.result (g.met.K.Sink.place_then _ _ _) (g.met.K.Sink.same_then _ _ _) (rw c.items.ensures at c.in_ok-append_both.ensures) (rw c.flow_word.ensures at c.append_both-2.ensures))
