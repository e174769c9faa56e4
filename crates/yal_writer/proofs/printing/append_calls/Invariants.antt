use Rattle.std.proofs.Common.{length, true}
use Rattle.shelf_io.proofs.SoFar.{SoFar}
use Rattle.yal_writer.specs.ParentText.{calls_text}
use Rattle.yal_writer.proofs.printing.append_calls.Given as goal

-- the calls before those that are left were written, and nothing has failed
abbrev pub invariant-loop-call : goal.invariant-loop-call
invariant-loop-call g l = SoFar (calls_text l.fn.calls) (calls_text l.rest) l.fn.buffer l.buffer
    (g.K.Sink.written l.fn.out) (g.K.Sink.written l.out) (g.K.Sink.faults l.fn.out) (g.K.Sink.faults l.out) (g.K.Sink.same_place l.fn.out l.out)
    (g.K.Sink.else_same l.fn.out l.out true)

abbrev pub decreases-loop-call : goal.decreases-loop-call
decreases-loop-call g l = length l.rest
