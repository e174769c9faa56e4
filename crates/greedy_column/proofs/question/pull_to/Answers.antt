use Rattle.greedy_column.proofs.question.pull_to.Goals as goal
use Rattle.std.proofs.Common.{◌≡◌, ◌∷◌, List, ℕ, arith, rules, subst, sym, Contains}
use Rattle.std_laws.proofs.Members.{member-head}

pub overflow_add-result : goal.overflow_add-result
overflow_add-result c =
    let other = c.in-Some.other.now in
    let more = c.in-Some.more.now in
    let cut : c.args.others.now ≡ other ∷ more = search rules in
    let inside = c.list.ensures.are.each other (subst (λ (l : List ℕ). Contains l other) (sym cut) (member-head other more)) in
    omega (arith, c.least_distance.ensures.within, c.abs_diff.ensures, c.ranges.line.fits, inside.0, inside.1)
