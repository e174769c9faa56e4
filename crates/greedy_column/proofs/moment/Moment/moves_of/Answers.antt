use Rattle.std.proofs.Common.{◌≡◌, ◌∙◌, ap, map, subst, List, ℕ, Contains}
use Rattle.std.proofs.lemmas.Result.{IfOk-weaker}
use Rattle.greedy_column.specs.declared.span.Span.{Span}
use Rattle.greedy_column.specs.Uses.{next_after}
use Rattle.greedy_column.specs.Lines.{free_lines, held_lines}
use Rattle.greedy_column.specs.Moving.{IsOrderOfMoves, MovesFollow, is_movable, movable_lines, move_ids}
use Rattle.std_laws.proofs.Members.{filter-from}
use Rattle.greedy_column.proofs.moment.Moment.moves_of.Goals as goal

pub order_of_moves-requires-clause-held : goal.order_of_moves-requires-clause-held
order_of_moves-requires-clause-held g c = λ line member.
    (filter-from (is_movable c.deref.result.now c.in_ok-free.free c.args.kept.now) (held_lines c.args.kept.now) line
    (subst (λ (l : List ℕ). Contains l line) c.in_ok-lines.ensures member)).0

pub returns-clause-moves : goal.returns-clause-moves
returns-clause-moves g c =
    let may = g.C.Chooses.answers c.args.self.now.chooser.now in
    let next = next_after c.args.self.now.ahead.now.uses.items c.args.self.now.column in
    let now = c.args.paired.now.tracks.now in
    let kept = c.args.kept.now in
    let drawn = c.args.spans.now.items in
    let order = c.deref-2.result.now in
    let movable : c.in_ok-lines.lines.items ≡ movable_lines drawn (free_lines now) kept =
    c.in_ok-lines.ensures ∙ ap (λ (l : List Span). movable_lines l c.in_ok-free.free kept) c.deref.ensures.value
    ∙ ap (λ (l : List ℕ). movable_lines drawn l kept) c.in_ok-free.ensures in
    IfOk-weaker c.move_ids.result _ _ (λ moves is. record {
      order = c.in_ok-order.order.items;
      moving = c.in_ok-moving.moving.items;
      ordered = subst (λ (l : List ℕ). IsOrderOfMoves c.args.self.now.manner next kept l c.in_ok-order.order.items) movable c.in_ok-order.ensures;
      follow = subst (λ (l : List ℕ). MovesFollow may next now kept l drawn (free_lines now) c.in_ok-moving.moving.items) c.deref-2.ensures.value
          (subst (λ (l : List ℕ). MovesFollow may next now kept order drawn l c.in_ok-moving.moving.items) c.in_ok-free.ensures
          c.in_ok-moving.ensures.moves);
      told = is ∙ ap (λ (l : List (ℕ × ℕ)). map (move_ids now) l) c.deref-3.ensures.value;
    }) c.move_ids.ensures
