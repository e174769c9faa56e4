use Rattle.std.proofs.Common.{length, true}
use Rattle.shelf_io.proofs.SoFar.{SoFar}
use Rattle.shelf_io.proofs.buffer.Buffer.append.Given as goal

abbrev pub invariant-loop-rest : goal.invariant-loop-rest
invariant-loop-rest g l = SoFar l.bytes l.rest l.fn.self l.self (g.K.Sink.written l.fn.out) (g.K.Sink.written l.out) (g.K.Sink.faults l.fn.out) (g.K.Sink.faults l.out)
    (g.K.Sink.same_place l.fn.out l.out) (g.K.Sink.else_same l.fn.out l.out true)

abbrev pub decreases-loop-rest : goal.decreases-loop-rest
decreases-loop-rest g l = length l.rest
