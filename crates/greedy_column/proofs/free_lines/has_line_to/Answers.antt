use Rattle.std.proofs.Common.{◌≡◌, ◌∷◌, ◌∙◌, List, ℕ, ap, filter, leb, length, ltb, rules, subst, sym}
use Rattle.std.specs.List.Sorted.{IsNonDecreasing}
use Rattle.greedy_column.proofs.AscentLaws.{first_tells}
use Rattle.greedy_column.proofs.free_lines.has_line_to.Goals as goal

pub returns-in-Some : goal.returns-in-Some
returns-in-Some c =
    let high = c.args.high in
    let line = c.in-Some.line.now in
    let more = c.in-Some._more.now in
    let cut : c.args.lines.now ≡ line ∷ more = search rules in
    first_tells high line more (subst (λ (l : List ℕ). IsNonDecreasing l) cut c.requires)
    ∙ ap (λ (l : List ℕ). ltb 0 (length (filter (λ y. leb y high) l))) (sym cut)
