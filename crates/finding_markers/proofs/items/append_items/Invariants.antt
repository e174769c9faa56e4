use Rattle.std.proofs.Common.{length, true}
use Rattle.shelf_io.proofs.SoFar.{SoFar}
use Rattle.finding_markers.specs.Markers.{items_text}
use Rattle.finding_markers.proofs.items.append_items.Given as goal

-- the items of the findings before those that are left were written, and nothing has failed
abbrev pub invariant-loop-finding : goal.invariant-loop-finding
invariant-loop-finding g l = SoFar (items_text l.design l.layout l.fn.findings) (items_text l.design l.layout l.rest) l.fn.buffer l.buffer
    (g.K.Sink.written l.fn.out) (g.K.Sink.written l.out) (g.K.Sink.faults l.fn.out) (g.K.Sink.faults l.out) (g.K.Sink.same_place l.fn.out l.out)
    (g.K.Sink.else_same l.fn.out l.out true)

abbrev pub decreases-loop-finding : goal.decreases-loop-finding
decreases-loop-finding g l = length l.rest
