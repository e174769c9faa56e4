use Rattle.std.proofs.Common.{length, true}
use Rattle.shelf_io.proofs.SoFar.{SoFar}
use Rattle.marker_text.specs.Escaped.{escaped}
use Rattle.marker_text.proofs.escaping.append_escaped.Given as goal

-- the bytes before those that are left were written, and nothing has failed
abbrev pub invariant-loop-byte : goal.invariant-loop-byte
invariant-loop-byte g l = SoFar (escaped l.fn.bytes) (escaped l.rest) l.fn.buffer l.buffer
    (g.K.Sink.written l.fn.out) (g.K.Sink.written l.out) (g.K.Sink.faults l.fn.out) (g.K.Sink.faults l.out) (g.K.Sink.same_place l.fn.out l.out)
    (g.K.Sink.else_same l.fn.out l.out true)

abbrev pub decreases-loop-byte : goal.decreases-loop-byte
decreases-loop-byte g l = length l.rest
