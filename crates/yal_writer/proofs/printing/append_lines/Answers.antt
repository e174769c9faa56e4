use Rattle.std.proofs.Common.{ap, true}
use Rattle.std.proofs.lemmas.List.{nil_from_length}
use Rattle.shelf_io.proofs.SoFar.{so_far-begun, so_far-done, so_far-failed, so_far-more}
use Rattle.yal_writer.specs.ParentText.{lines_text}
use Rattle.yal_writer.proofs.printing.append_lines.Goals as goal

pub loop-line-init : goal.loop-line-init
loop-line-init g c = so_far-begun _ c.args.buffer.now _ _ (g.met.K.Sink.place_here c.args.out.now) (g.met.K.Sink.same_here c.args.out.now)

pub returns-in_err-append_line : goal.returns-in_err-append_line
returns-in_err-append_line g c =
    so_far-failed c.from_residual.result _ (g.met.K.Sink.place_then _ _ _) (g.met.K.Sink.same_then _ _ _) c.from_residual.ensures.0 c.loop-line.invariant
    (ap lines_text c.in-Some.ensures.cases.0) c.in_err-append_line.ensures

pub loop-line-preserved : goal.loop-line-preserved
loop-line-preserved g c =
    so_far-more (g.met.K.Sink.place_then _ _ _) (g.met.K.Sink.same_then _ _ _ true) c.loop-line.invariant
    (ap lines_text c.in-Some.ensures.cases.0) c.in_ok-append_line.ensures

pub returns : goal.returns
returns g c = so_far-done _ (ap lines_text (nil_from_length c.loop-line.rest.now c.in_default.ensures.cases)) c.loop-line.invariant
