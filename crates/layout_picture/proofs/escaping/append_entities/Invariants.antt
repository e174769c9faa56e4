use Rattle.std.proofs.Common.{length, true}
use Rattle.shelf_io.proofs.SoFar.{SoFar}
use Rattle.layout_picture.specs.Entities.{entities}
use Rattle.layout_picture.proofs.escaping.append_entities.Given as goal

-- the bytes before those that are left were written, and nothing has failed
abbrev pub invariant-loop-byte : goal.invariant-loop-byte
invariant-loop-byte g l = SoFar (entities l.fn.bytes) (entities l.rest) l.fn.buffer l.buffer
    (g.K.Sink.written l.fn.out) (g.K.Sink.written l.out) (g.K.Sink.faults l.fn.out) (g.K.Sink.faults l.out) (g.K.Sink.same_place l.fn.out l.out)
    (g.K.Sink.else_same l.fn.out l.out true)

abbrev pub decreases-loop-byte : goal.decreases-loop-byte
decreases-loop-byte g l = length l.rest
