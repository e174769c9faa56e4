use Rattle.std.proofs.Common.{length, true}
use Rattle.shelf_io.proofs.SoFar.{SoFar}
use Rattle.finding_markers.specs.Markers.{boxes_text}
use Rattle.finding_markers.specs.Places.{places_drawn}
use Rattle.finding_markers.proofs.pins.append_drawn.Given as goal

-- the boxes before those of the positions and shapes that are left were written, and nothing has failed
abbrev pub invariant-loop-position : goal.invariant-loop-position
invariant-loop-position g l = SoFar (boxes_text (places_drawn l.terminal l.fn.positions l.fn.shapes)) (boxes_text (places_drawn l.terminal l.left l.rest)) l.fn.buffer l.buffer
    (g.K.Sink.written l.fn.out) (g.K.Sink.written l.out) (g.K.Sink.faults l.fn.out) (g.K.Sink.faults l.out) (g.K.Sink.same_place l.fn.out l.out)
    (g.K.Sink.else_same l.fn.out l.out true)

abbrev pub decreases-loop-position : goal.decreases-loop-position
decreases-loop-position g l = length l.left
