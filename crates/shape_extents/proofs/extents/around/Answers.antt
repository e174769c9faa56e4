use Rattle.shape_extents.proofs.extents.around.Goals as goal
use Rattle.std.proofs.Common.{◌≤ℤ◌, ◌<ℤ◌, SFits, w64, rules, arith, refl}
use Rattle.std.proofs.lemmas.Int.{to_z-of_z, ints}

pub invariant_of-result : goal.invariant_of-result
invariant_of-result c =
    let ax0 : SFits w64 c.a.inside.x0 = search rules in
    let ay0 : SFits w64 c.a.inside.y0 = search rules in
    let ax1 : SFits w64 c.a.inside.x1 = search rules in
    let ay1 : SFits w64 c.a.inside.y1 = search rules in
    let left : c.min.result ≤ℤ c.a.inside.x0 = simp to_z-of_z at c.min.ensures.self_bound in
    let low : c.min-2.result ≤ℤ c.a.inside.y0 = simp to_z-of_z at c.min-2.ensures.self_bound in
    let right : c.a.inside.x1 ≤ℤ c.max.result = simp to_z-of_z at c.max.ensures.self_bound in
    let high : c.a.inside.y1 ≤ℤ c.max-2.result = simp to_z-of_z at c.max-2.ensures.self_bound in
    let wide : c.a.inside.x0 <ℤ c.a.inside.x1 = c.a.invariant.0 in
    let tall : c.a.inside.y0 <ℤ c.a.inside.y1 = c.a.invariant.1 in
    (omega (arith, ints), omega (arith, ints))

pub returns : goal.returns
returns c =
    let ax0 : SFits w64 c.a.inside.x0 = search rules in
    let ay0 : SFits w64 c.a.inside.y0 = search rules in
    let ax1 : SFits w64 c.a.inside.x1 = search rules in
    let ay1 : SFits w64 c.a.inside.y1 = search rules in
    let bx0 : SFits w64 c.b.inside.x0 = search rules in
    let by0 : SFits w64 c.b.inside.y0 = search rules in
    let bx1 : SFits w64 c.b.inside.x1 = search rules in
    let by1 : SFits w64 c.b.inside.y1 = search rules in
    let x0 : SFits w64 c.min.result = search rules in
    let y0 : SFits w64 c.min-2.result = search rules in
    let x1 : SFits w64 c.max.result = search rules in
    let y1 : SFits w64 c.max-2.result = search rules in
    let left = simp to_z-of_z at c.min.ensures.value in
    let low = simp to_z-of_z at c.min-2.ensures.value in
    let right = simp to_z-of_z at c.max.ensures.value in
    let high = simp to_z-of_z at c.max-2.ensures.value in
    rw (← c.a.view_is, ← c.b.view_is) (simp to_z-of_z (rw (left, low, right, high) refl))
