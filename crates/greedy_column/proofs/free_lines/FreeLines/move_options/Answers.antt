use Rattle.std.proofs.Common.{◌∙◌, List, ℕ, ap, sym, subst, arith, filter, length}
use Rattle.std.specs.List.Sorted.{IsNonDecreasing}
use Rattle.greedy_column.specs.Moving.{is_within}
use Rattle.std_laws.proofs.Counts.{filter-short}
use Rattle.std_laws.proofs.Increasing.{increasing-rises}
use Rattle.greedy_column.proofs.AscentLaws.{window_options}
use Rattle.greedy_column.proofs.free_lines.FreeLines.move_options.Goals as goal

pub lines_within-requires : goal.lines_within-requires
lines_within-requires c =
    subst (λ (l : List ℕ). IsNonDecreasing l) (sym c.list.ensures.list) (increasing-rises c.args.self.now c.list.ensures.are.ascending)

pub returns-clause-options : goal.returns-clause-options
returns-clause-options c =
    c.lines_within.ensures ∙ ap (λ (l : List ℕ). filter (is_within c.lines_past.result) l) c.list.ensures.list
    ∙ window_options c.lines_past.result c.args.spans.now c.args.net c.args.line c.args.self.now c.list.ensures.are c.lines_past.ensures

pub returns-clause-few : goal.returns-clause-few
returns-clause-few c =
    let window = is_within c.lines_past.result in
    let is = c.lines_within.ensures ∙ ap (λ (l : List ℕ). filter window l) c.list.ensures.list in
    omega (arith, ap (λ (l : List ℕ). length l) is, filter-short window c.args.self.now, c.list.ensures.are.on_tracks.few)
