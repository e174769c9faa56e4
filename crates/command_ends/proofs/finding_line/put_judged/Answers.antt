use Rattle.command_ends.proofs.finding_line.put_judged.Goals as goal
use Rattle.std.proofs.Common.{[], false, true}
use Rattle.command_ends.specs.FindingLines.{finding_lines}
use Rattle.shelf_io.proofs.WroteLaws.{failed-before, failed-behind, puts-behind, puts-failed, wrote-then}

pub returns-in_err-append_findings : goal.returns-in_err-append_findings
returns-in_err-append_findings g c =
    let e = c.in_err-append_findings.ensures in
    puts-failed c.from_residual.result c.from_residual.ensures.0 e.place (failed-before (finding_lines c.args.design.now c.args.layout.now c.args.findings.now) _ [] (rw c.new-buffer.ensures at e.failed))

pub returns-in_err-append_line : goal.returns-in_err-append_line
returns-in_err-append_line g c =
    let one = c.in_ok-append_findings.ensures in
    let two = c.in_err-append_line.ensures in
    puts-failed c.from_residual-in_err-append_line.result c.from_residual-in_err-append_line.ensures.0 (g.met.K.Sink.place_then _ _ _ one.place two.place)
    (failed-behind _ (g.met.K.Sink.same_then _ _ _ false) (rw c.new-buffer.ensures at one.wrote) two.failed)

pub returns : goal.returns
returns g c =
    let one = c.in_ok-append_findings.ensures in
    let two = c.in_ok-append_line.ensures in
    puts-behind c.flush.result (g.met.K.Sink.place_then _ _ _ (g.met.K.Sink.place_then _ _ _ one.place two.place)) (g.met.K.Sink.same_then _ _ _)
    (wrote-then (g.met.K.Sink.same_then _ _ _ true) (rw c.new-buffer.ensures at one.wrote) two.wrote) c.flush.ensures.put
