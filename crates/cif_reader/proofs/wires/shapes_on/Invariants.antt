use Rattle.std.proofs.Common.{◌≡◌, ◌++◌, length}
use Rattle.std.specs.Prelude.{map}
use Rattle.cif_reader.specs.Sides.{AreProper}
use Rattle.cif_reader.proofs.wires.shapes_on.Given as goal

abbrev pub invariant-loop-rect : goal.invariant-loop-rect
invariant-loop-rect l =
    (l.shapes.items ++ map (λ rect. record { layer = l.fn.layer; rect = rect }) l.rest ≡ map (λ rect. record { layer = l.fn.layer; rect = rect }) l.fn.rects)
    × AreProper l.shapes.items

abbrev pub decreases-loop-rect : goal.decreases-loop-rect
decreases-loop-rect l = length l.rest
