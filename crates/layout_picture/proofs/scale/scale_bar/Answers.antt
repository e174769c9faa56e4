use Rattle.layout_picture.proofs.scale.scale_bar.Goals as goal
use Rattle.std.proofs.Common.{◌≤◌, ◌*◌, ◌/◌, SFits, w64, rules, arith, ap}
use Rattle.std.proofs.lemmas.Int.{to_z-of_z}
use Rattle.layout_picture.specs.Scale.{bar_below, scale_bar}
use Rattle.layout_picture.proofs.Bars.{bar-largest}

pub returns-clause-is : goal.returns-clause-is
unfolding scale_bar
returns-clause-is c =
    let x0 : SFits w64 c.frame.inside.x0 = search rules in
    let x1 : SFits w64 c.frame.inside.x1 = search rules in
    let width = simp to_z-of_z at c.abs_diff.ensures in
    rw (← c.frame.view_is) (ap (λ n. 2 * n) (rw width at c.bar_below.ensures.is))

pub returns-clause-within : goal.returns-clause-within
returns-clause-within c =
    let x0 : SFits w64 c.frame.inside.x0 = search rules in
    let x1 : SFits w64 c.frame.inside.x1 = search rules in
    let width = simp to_z-of_z at c.abs_diff.ensures in
    let within : 4 * (2 * c.bar_below.result) ≤ c.abs_diff.result = omega (arith, c.bar_below.ensures.within) in
    rw (← c.frame.view_is) (rw width at within)

pub returns-clause-largest : goal.returns-clause-largest
returns-clause-largest c =
    let x0 : SFits w64 c.frame.inside.x0 = search rules in
    let x1 : SFits w64 c.frame.inside.x1 = search rules in
    let width = simp to_z-of_z at c.abs_diff.ensures in
    rw (← c.frame.view_is) (λ n round fits.
    let small : 8 * n ≤ c.abs_diff.result = rw (← width) at fits in
    let most : n ≤ bar_below 18 (c.abs_diff.result / 8) = bar-largest 18 (c.abs_diff.result / 8) n round.0 round.1.0 round.1.1 (omega arith) in
    omega (arith, c.bar_below.ensures.is, most))
