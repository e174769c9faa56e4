use Rattle.std.proofs.Common.{◌≡◌, ◌-ℤ◌, ◌+ℤ◌, pos, SFits, w64, rules, ap, arith}
use Rattle.std.proofs.lemmas.Int.{to_z-of_z, ints}
use Rattle.geom_core.specs.Extent.{Extent}
use Rattle.close_rects.proofs.bounds.Bounds.near.Goals as goal

pub returns : goal.returns
returns c =
    let reach : SFits w64 c.args.reach.length = search rules in
    let d : SFits w64 (c.args.reach.length -ℤ pos 1) = omega (arith, ints) in
    let x0 : SFits w64 c.rect.inside.x0 = search rules in
    let y0 : SFits w64 c.rect.inside.y0 = search rules in
    let x1 : SFits w64 c.rect.inside.x1 = search rules in
    let y1 : SFits w64 c.rect.inside.y1 = search rules in
    let left_is : c.rect.inside.x0 ≡ c.args.rect.now.x0 = ap (λ (e : Extent). e.x0) c.rect.view_is in
    let low_is : c.rect.inside.y0 ≡ c.args.rect.now.y0 = ap (λ (e : Extent). e.y0) c.rect.view_is in
    let right_is : c.rect.inside.x1 ≡ c.args.rect.now.x1 = ap (λ (e : Extent). e.x1) c.rect.view_is in
    let high_is : c.rect.inside.y1 ≡ c.args.rect.now.y1 = ap (λ (e : Extent). e.y1) c.rect.view_is in
    let left : SFits w64 (c.rect.inside.x0 -ℤ (c.args.reach.length -ℤ pos 1)) = omega (arith, ints) in
    let low : SFits w64 (c.rect.inside.y0 -ℤ (c.args.reach.length -ℤ pos 1)) = omega (arith, ints) in
    let right : SFits w64 (c.rect.inside.x1 +ℤ (c.args.reach.length -ℤ pos 1)) = omega (arith, ints) in
    let high : SFits w64 (c.rect.inside.y1 +ℤ (c.args.reach.length -ℤ pos 1)) = omega (arith, ints) in
    rw (← c.rect.view_is) (simp to_z-of_z)
