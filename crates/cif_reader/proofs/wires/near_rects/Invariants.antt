use Rattle.std.proofs.Common.{◌≡◌, ◌++◌, length}
use Rattle.cif_reader.specs.Limits.{first_far, sides_of_all}
use Rattle.cif_reader.proofs.wires.near_rects.Given as goal

abbrev pub invariant-loop-next : goal.invariant-loop-next
invariant-loop-next l = (l.found.items ++ l.rest ≡ l.fn.sides) × (first_far (sides_of_all l.fn.sides) ≡ first_far (sides_of_all l.rest))

abbrev pub decreases-loop-next : goal.decreases-loop-next
decreases-loop-next l = length l.rest
