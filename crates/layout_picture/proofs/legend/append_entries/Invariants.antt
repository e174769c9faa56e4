use Rattle.std.proofs.Common.{length, true}
use Rattle.shelf_io.proofs.SoFar.{SoFar}
use Rattle.layout_picture.specs.Legend.{entries_text}
use Rattle.layout_picture.proofs.legend.append_entries.Given as goal

-- those before the ones that are left were written, and nothing has failed
abbrev pub invariant-loop-layer : goal.invariant-loop-layer
invariant-loop-layer g l = SoFar (entries_text l.roles l.fn.layers) (entries_text l.roles l.rest) l.fn.buffer l.buffer
    (g.K.Sink.written l.fn.out) (g.K.Sink.written l.out) (g.K.Sink.faults l.fn.out) (g.K.Sink.faults l.out) (g.K.Sink.same_place l.fn.out l.out)
    (g.K.Sink.else_same l.fn.out l.out true)

abbrev pub decreases-loop-layer : goal.decreases-loop-layer
decreases-loop-layer g l = length l.rest
