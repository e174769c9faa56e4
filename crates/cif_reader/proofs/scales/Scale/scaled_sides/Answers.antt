use Rattle.std.proofs.Common.{◌≡◌, Some, arith}
use Rattle.std.proofs.lemmas.Int.{to_z-of_z}
use mir.Syntax.{w128}
use mir.Val.{to_z, of_z}
use Rattle.cif_text.specs.Scales.{scaled}
use Rattle.cif_reader.proofs.ScaleLemmas.{scaled-less}
use Rattle.cif_reader.proofs.scales.Scale.scaled_sides.Goals as goal

pub invariant_of-result : goal.invariant_of-result
invariant_of-result c =
    let a = c.args.self.a in
    let b = c.args.self.b in
    let x0 : Some (to_z w128 (of_z w128 c.in_ok-x0.x0)) ≡ scaled a b c.sides.inside.x0 = grind (arith, to_z-of_z, c.in_ok-x0.ensures) in
    let y0 : Some (to_z w128 (of_z w128 c.in_ok-y0.y0)) ≡ scaled a b c.sides.inside.y0 = grind (arith, to_z-of_z, c.in_ok-y0.ensures) in
    let x1 : Some (to_z w128 (of_z w128 c.in_ok-x1.x1)) ≡ scaled a b c.sides.inside.x1 = grind (arith, to_z-of_z, c.in_ok-x1.ensures) in
    let y1 : Some (to_z w128 (of_z w128 c.in_ok-y1.y1)) ≡ scaled a b c.sides.inside.y1 = grind (arith, to_z-of_z, c.in_ok-y1.ensures) in (
      scaled-less a b c.sides.inside.x0 c.sides.inside.x1 _ _ c.args.self.a_is.low c.args.self.b_is.low x0 x1 c.sides.invariant.0,
      scaled-less a b c.sides.inside.y0 c.sides.inside.y1 _ _ c.args.self.a_is.low c.args.self.b_is.low y0 y1 c.sides.invariant.1,
    )
