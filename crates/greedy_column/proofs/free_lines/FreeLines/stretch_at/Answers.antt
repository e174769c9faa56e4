use Rattle.std.proofs.Common.{◌∙◌, List, ℕ, ap, filter, length, ltb, sym, subst}
use Rattle.std.specs.List.Sorted.{IsNonDecreasing}
use Rattle.greedy_column.specs.Moving.{is_within}
use Rattle.std_laws.proofs.Increasing.{increasing-rises}
use Rattle.greedy_column.proofs.AscentLaws.{window_options}
use Rattle.greedy_column.proofs.StretchLaws.{options_alike}
use Rattle.greedy_column.proofs.free_lines.FreeLines.stretch_at.Goals as goal

pub has_line_within-requires : goal.has_line_within-requires
has_line_within-requires c =
    subst (λ (l : List ℕ). IsNonDecreasing l) (sym c.list.ensures.list) (increasing-rises c.args.self.now c.list.ensures.are.ascending)

pub returns-clause-stretch : goal.returns-clause-stretch
returns-clause-stretch c = λ net line fits foreign within.
    c.has_line_within.ensures
    ∙ ap (λ (l : List ℕ). ltb 0 (length l)) (ap (λ (l : List ℕ). filter (is_within c.lines_past-window.result) l) c.list.ensures.list
    ∙ window_options c.lines_past-window.result c.args.spans.now c.args.net c.args.line c.args.self.now c.list.ensures.are c.lines_past-window.ensures)
    ∙ options_alike c.args.spans.now c.args.self.now c.args.net c.args.line net line c.requires foreign (sym (c.lines_past-window.ensures line fits) ∙ within)

pub returns-clause-here : goal.returns-clause-here
returns-clause-here c =
    c.has_line_within.ensures
    ∙ ap (λ (l : List ℕ). ltb 0 (length l)) (ap (λ (l : List ℕ). filter (is_within c.lines_past-window.result) l) c.list.ensures.list
    ∙ window_options c.lines_past-window.result c.args.spans.now c.args.net c.args.line c.args.self.now c.list.ensures.are c.lines_past-window.ensures)
