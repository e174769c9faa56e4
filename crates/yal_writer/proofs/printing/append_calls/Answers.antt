use Rattle.std.proofs.Common.{ap, true}
use Rattle.std.proofs.lemmas.List.{nil_from_length}
use Rattle.shelf_io.proofs.SoFar.{so_far-begun, so_far-done, so_far-failed, so_far-more}
use Rattle.yal_writer.specs.ParentText.{calls_text}
use Rattle.yal_writer.proofs.printing.append_calls.Goals as goal

pub loop-call-init : goal.loop-call-init
loop-call-init g c = so_far-begun _ c.args.buffer.now _ _ (g.met.K.Sink.place_here c.args.out.now) (g.met.K.Sink.same_here c.args.out.now)

pub returns-in_err-append_call : goal.returns-in_err-append_call
returns-in_err-append_call g c =
    so_far-failed c.from_residual.result _ (g.met.K.Sink.place_then _ _ _) (g.met.K.Sink.same_then _ _ _) c.from_residual.ensures.0 c.loop-call.invariant
    (ap calls_text c.in-Some.ensures.cases.0) c.in_err-append_call.ensures

pub loop-call-preserved : goal.loop-call-preserved
loop-call-preserved g c =
    so_far-more (g.met.K.Sink.place_then _ _ _) (g.met.K.Sink.same_then _ _ _ true) c.loop-call.invariant
    (ap calls_text c.in-Some.ensures.cases.0) c.in_ok-append_call.ensures

pub returns : goal.returns
returns g c = so_far-done _ (ap calls_text (nil_from_length c.loop-call.rest.now c.in_default.ensures.cases)) c.loop-call.invariant
