use Rattle.std.proofs.Common.{length, true}
use Rattle.shelf_io.proofs.SoFar.{SoFar}
use Rattle.layout_picture.specs.Elements.{shapes_text}
use Rattle.layout_picture.proofs.shapes.append_shapes.Given as goal

-- those before the ones that are left were written, and nothing has failed
abbrev pub invariant-loop-shape : goal.invariant-loop-shape
invariant-loop-shape g l = SoFar (shapes_text l.frame l.fn.shapes) (shapes_text l.frame l.rest) l.fn.buffer l.buffer
    (g.K.Sink.written l.fn.out) (g.K.Sink.written l.out) (g.K.Sink.faults l.fn.out) (g.K.Sink.faults l.out) (g.K.Sink.same_place l.fn.out l.out)
    (g.K.Sink.else_same l.fn.out l.out true)

abbrev pub decreases-loop-shape : goal.decreases-loop-shape
decreases-loop-shape g l = length l.rest
