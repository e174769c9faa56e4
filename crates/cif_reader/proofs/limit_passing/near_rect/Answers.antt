use Rattle.std.proofs.Common.{◌≡◌, arith}
use Rattle.std.proofs.lemmas.Int.{to_z-of_z}
use mir.Syntax.{w64}
use mir.Val.{to_z, of_z}
use Rattle.cif_reader.proofs.limit_passing.near_rect.Goals as goal

pub invariant_of-result : goal.invariant_of-result
invariant_of-result c =
    let x0 : to_z w64 (of_z w64 c.in-Some.x0) ≡ c.sides.inside.x0 = grind (arith, to_z-of_z, c.in-Some.ensures.same) in
    let y0 : to_z w64 (of_z w64 c.in-Some-near.y0) ≡ c.sides.inside.y0 = grind (arith, to_z-of_z, c.in-Some-near.ensures.same) in
    let x1 : to_z w64 (of_z w64 c.in-Some-near-2.x1) ≡ c.sides.inside.x1 = grind (arith, to_z-of_z, c.in-Some-near-2.ensures.same) in
    let y1 : to_z w64 (of_z w64 c.in-Some-near-3.y1) ≡ c.sides.inside.y1 = grind (arith, to_z-of_z, c.in-Some-near-3.ensures.same) in
    rw (x0, y0, x1, y1) c.sides.invariant

pub returns-clause-proper : goal.returns-clause-proper
returns-clause-proper c = let proper = invariant_of-result c in record { across = proper.0; up = proper.1 }
