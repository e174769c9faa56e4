use Rattle.std.proofs.Common.{◌≡◌, length}
use Rattle.cif_text.specs.Scales.{scaled_extents}
use Rattle.cif_reader.proofs.RectLaws.{with_rects}
use Rattle.cif_reader.proofs.wires.scaled_all.Given as goal

abbrev pub invariant-loop-rect : goal.invariant-loop-rect
invariant-loop-rect l =
    with_rects l.found.items (scaled_extents l.fn.scale.a l.fn.scale.b l.rest) ≡ scaled_extents l.fn.scale.a l.fn.scale.b l.fn.rects

abbrev pub decreases-loop-rect : goal.decreases-loop-rect
decreases-loop-rect l = length l.rest
