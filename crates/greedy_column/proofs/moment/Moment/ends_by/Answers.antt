use Rattle.std.proofs.Common.{◌≡◌, [], ℕ, List, ◌∙◌, length, refl, sym, subst, ap, eqb-true}
use Rattle.std.proofs.lemmas.List.{nil_from_length}
use Rattle.std.proofs.lemmas.Result.{IfOk-weaker}
use Rattle.greedy_column.specs.declared.span.Span.{Span}
use Rattle.greedy_column.specs.Uses.{next_after}
use Rattle.greedy_column.specs.Desk.{MarksSplit}
use Rattle.greedy_column.specs.Joining.{neighbours}
use Rattle.greedy_column.specs.Ending.{EndsFollow, groups, joined_pairs}
use Rattle.greedy_column.specs.Lines.{held_lines}
use Rattle.greedy_column.proofs.LoneLaws.{lone_follow}
use Rattle.greedy_column.proofs.moment.Moment.ends_by.Goals as goal

pub returns-then-is_empty : goal.returns-then-is_empty
returns-then-is_empty g c =
    let may = g.C.Chooses.answers c.args.self.now.chooser.now in
    let next = next_after c.args.self.now.ahead.now.uses.items c.args.self.now.column in
    let tracks = c.args.paired.now.tracks.now in
    let spans : List Span = c.args.spans.now in
    let empty : c.list.result.now ≡ [] = nil_from_length c.list.result.now (eqb-true (length c.list.result.now) 0 (sym c.is_empty.ensures ∙ c.if-is_empty.true)) in
    let none : joined_pairs spans (neighbours tracks) ≡ [] =
    ap (joined_pairs spans) (sym c.args.paired.now.neighbours) ∙ sym c.in_ok-joined.ensures ∙ sym c.list.ensures.list ∙ empty in
    let split = subst (λ (l : List Span). MarksSplit spans l c.args.marks.now) c.args.paired.now.neighbours c.requires in
    IfOk-weaker c.lone_ends.result _ _ (λ ending is.
    subst (λ (l : List Span). EndsFollow may next tracks spans (groups l (held_lines tracks)) ending.items) (sym none)
    (subst (λ (l : List ℕ). EndsFollow may next tracks spans (groups [] (held_lines tracks)) l) (sym is)
    (lone_follow may next tracks spans c.lasts.result.now c.args.marks.now c.args.self.now.column (λ net. c.lasts.ensures c.args.self.now.column net) split [] tracks 1 refl refl)))
    c.lone_ends.ensures
