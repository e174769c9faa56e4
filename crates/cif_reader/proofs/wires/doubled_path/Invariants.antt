use Rattle.std.proofs.Common.{◌≡◌, ◌++◌, length}
use Rattle.std.specs.List.{AllByRecursion}
use Rattle.std.specs.Prelude.{map}
use Rattle.region_cut.specs.Strokes.{IsCornerInReach}
use Rattle.cif_text.specs.Printable.{IsNearCorner}
use Rattle.cif_text.specs.Scales.{doubled_corner}
use Rattle.cif_reader.proofs.wires.doubled_path.Given as goal

abbrev pub invariant-loop-corner : goal.invariant-loop-corner
invariant-loop-corner l =
    (l.doubled.items ++ map doubled_corner l.rest ≡ map doubled_corner l.fn.path)
    × AllByRecursion IsCornerInReach l.doubled.items × AllByRecursion IsNearCorner l.rest

abbrev pub decreases-loop-corner : goal.decreases-loop-corner
decreases-loop-corner l = length l.rest
