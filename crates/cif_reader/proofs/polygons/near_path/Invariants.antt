use Rattle.std.proofs.Common.{◌≡◌, ◌++◌, length}
use Rattle.cif_reader.specs.Limits.{first_far, coordinates_of_path}
use Rattle.cif_reader.proofs.polygons.near_path.Given as goal

abbrev pub invariant-loop-next : goal.invariant-loop-next
invariant-loop-next l =
    (l.found.items ++ l.rest ≡ l.fn.corners) × (first_far (coordinates_of_path l.fn.corners) ≡ first_far (coordinates_of_path l.rest))

abbrev pub decreases-loop-next : goal.decreases-loop-next
decreases-loop-next l = length l.rest
