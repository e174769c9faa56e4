use Rattle.std.proofs.Common.{◌≡◌, ◌∙◌, ℕ, List, ap, ltb, filter, sym, subst, rules}
use Rattle.std.proofs.lemmas.Fn.{filter_same}
use Rattle.greedy_column.specs.Lines.{AreLines}
use Rattle.greedy_column.proofs.LineLaws.{AreLines-filter}
use Rattle.greedy_column.proofs.lines.Lines.below.Goals as goal

pub returns : goal.returns
returns c =
    let test = λ (line : ℕ). ltb line c.args.upper in
    let copied : c.in_ok-list.list.items ≡ c.list.result.now = search rules in
    filter_same _ test _ (λ x b f' k. search rules) _ _ c.retain.ensures.filtered ∙ ap (λ (l : List ℕ). filter test l) (copied ∙ c.list.ensures.list)

pub invariant_of-result : goal.invariant_of-result
invariant_of-result c =
    let test = λ (line : ℕ). ltb line c.args.upper in
    let copied : c.in_ok-list.list.items ≡ c.list.result.now = search rules in
    subst AreLines
    (sym (filter_same _ test _ (λ x b f' k. search rules) _ _ c.retain.ensures.filtered ∙ ap (λ (l : List ℕ). filter test l) (copied ∙ c.list.ensures.list)))
    (AreLines-filter test c.args.self.now c.list.ensures.are)
