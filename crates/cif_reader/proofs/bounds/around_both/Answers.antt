use Rattle.std.proofs.Common.{◌≡◌, refl, arith}
use Rattle.std.proofs.lemmas.Int.{to_z-of_z}
use Rattle.std.specs.Int.{int_min, int_max}
use mir.Syntax.{w64}
use mir.Val.{to_z, of_z}
use Rattle.cif_reader.proofs.bounds.around_both.Goals as goal

pub returns : goal.returns
returns c =
    let x0 : to_z w64 (of_z w64 c.lesser.result) ≡ int_min c.args.a.x0 c.args.b.x0 = grind (arith, to_z-of_z, c.lesser.ensures.is) in
    let y0 : to_z w64 (of_z w64 c.lesser-2.result) ≡ int_min c.args.a.y0 c.args.b.y0 = grind (arith, to_z-of_z, c.lesser-2.ensures.is) in
    let x1 : to_z w64 (of_z w64 c.greater.result) ≡ int_max c.args.a.x1 c.args.b.x1 = grind (arith, to_z-of_z, c.greater.ensures.is) in
    let y1 : to_z w64 (of_z w64 c.greater-2.result) ≡ int_max c.args.a.y1 c.args.b.y1 = grind (arith, to_z-of_z, c.greater-2.ensures.is) in
    rw (x0, y0, x1, y1) refl
