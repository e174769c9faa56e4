use Rattle.std.proofs.Common.{arith}
use Rattle.std.proofs.lemmas.Int.{to_z-of_z, ints}
use Rattle.close_rects.proofs.plane.in_plane.Goals as goal

pub invariant_of-result : goal.invariant_of-result
invariant_of-result c = grind (arith, ints, to_z-of_z)
