use Rattle.std.proofs.Common.{◌≡◌, ◌∷◌, ◌||◌, ◌&&◌, ◌∙◌, [], not, eqb, List, ℕ, sym, ap, rules}
use Rattle.std.proofs.lemmas.List.{nil_from_length}
use Rattle.greedy_column.specs.declared.span.Span.{Span}
use Rattle.greedy_column.specs.Desk.{is_marked}
use Rattle.greedy_column.specs.Ending.{is_split}
use Rattle.greedy_column.proofs.MarkLaws.{marks_more}
use Rattle.greedy_column.proofs.marks.mark_split.Goals as goal
use Rattle.std_laws.proofs.Tests.{or-false}

pub loop-pair-init : goal.loop-pair-init
loop-pair-init c = λ net. ap (λ n. not (eqb n 0) || is_split c.args.spans.now c.args.pairs.now net) (c.requires net)

pub loop-pair-preserved : goal.loop-pair-preserved
loop-pair-preserved c =
    let pair : Span = c.in-Some.pair.now in
    let others : List Span = c.in-Some.others.now in
    let spans : List Span = c.args.spans.now in
    let was : List ℕ = c.loop-pair.marks.items in
    let cut : c.loop-pair.rest.now ≡ pair ∷ others = search rules in
    marks_more spans pair others c.args.pairs.now was c.mark.new.marks.items
    (λ k. c.in_ok-mark.ensures k ∙ ap (λ b. (eqb pair.net k && not b) || is_marked was k) c.is_joined.ensures)
    (λ k. ap (λ (l : List Span). is_marked was k || is_split spans l k) (sym cut) ∙ c.loop-pair.invariant k)

pub returns : goal.returns
returns c =
    let none : c.loop-pair.rest.now ≡ [] = nil_from_length c.loop-pair.rest.now c.in_default.ensures.cases in
    λ net.
    sym (or-false (is_marked c.loop-pair.marks.items net))
    ∙ ap (λ (l : List Span). is_marked c.loop-pair.marks.items net || is_split c.args.spans.now l net) (sym none) ∙ c.loop-pair.invariant net
