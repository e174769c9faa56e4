use Rattle.std.proofs.Common.{arith}
use Rattle.std.proofs.lemmas.Int.{to_z-of_z, ints}
use Rattle.geom_core.proofs.rect.touch.Goals.{then-a-b, else-a-b, then-b-a, else-b-a}
use Rattle.geom_core.proofs.rect.touch.Goals as goal

pub returns-then-a-b-2 : goal.returns-then-a-b-2
returns-then-a-b-2 c = elim c.if-b-a.branch [
  | then-b-a w ↦ elim c.if-a-b.branch [ then-a-b v ↦ grind (arith, ints, to_z-of_z) | else-a-b v ↦ grind (arith, ints, to_z-of_z) ]
  | else-b-a w ↦ grind (arith, ints, to_z-of_z)
]
