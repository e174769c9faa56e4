use Rattle.std.proofs.Common.{◌≡◌, ◌∙◌, ℕ, List, ap, eqb, filter, not, rules}
use Rattle.std.proofs.lemmas.Fn.{filter_same}
use Rattle.std.specs.List.{list_any}
use Rattle.greedy_column.proofs.lines.outside.Goals as goal

pub returns : goal.returns
returns c =
    let test = λ (line : ℕ). not (list_any (λ (member : ℕ). eqb member line) c.args.group.now) in
    let copied : c.in_ok-others.others.items ≡ c.args.lines.now = search rules in
    filter_same _ test _ (λ x b f' k. search rules) _ _ c.retain.ensures.filtered ∙ ap (λ (l : List ℕ). filter test l) copied
