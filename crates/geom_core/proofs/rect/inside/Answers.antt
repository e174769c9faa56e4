use Rattle.std.proofs.Common.{arith}
use Rattle.std.proofs.lemmas.Int.{to_z-of_z, ints}
use Rattle.geom_core.proofs.rect.inside.Goals.{then-b-a, else-b-a, then-b-a-2, else-b-a-2}
use Rattle.geom_core.proofs.rect.inside.Goals as goal

pub returns-then-a-b : goal.returns-then-a-b
returns-then-a-b c = elim c.if-b-a-2.branch [
  | then-b-a-2 w ↦ elim c.if-b-a.branch [ then-b-a v ↦ grind (arith, ints, to_z-of_z) | else-b-a v ↦ grind (arith, ints, to_z-of_z) ]
  | else-b-a-2 w ↦ grind (arith, ints, to_z-of_z)
]
