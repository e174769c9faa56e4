use Rattle.std.proofs.Common.{◌≡◌, length}
use Rattle.cif_reader.specs.Limits.{coordinates_of, first_far}
use Rattle.cif_reader.proofs.limit_passing.first_far.Given as goal

abbrev pub invariant-loop-shape : goal.invariant-loop-shape
invariant-loop-shape l = first_far (coordinates_of l.fn.shapes) ≡ first_far (coordinates_of l.rest)

abbrev pub decreases-loop-shape : goal.decreases-loop-shape
decreases-loop-shape l = length l.rest
