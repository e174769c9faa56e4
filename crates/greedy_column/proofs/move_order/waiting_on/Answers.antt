use Rattle.std.proofs.Common.{◌≡◌, ◌∷◌, ◌++◌, ◌∙◌, [], List, ℕ, ap, append_assoc, arith, map, rules}
use Rattle.greedy_column.specs.declared.move_order.Waiting.{Waiting}
use Rattle.greedy_column.specs.Moving.{rank_on, waiting}
use Rattle.greedy_column.specs.Uses.{next_after}
use Rattle.std_laws.proofs.Members.{member-tail}
use Rattle.greedy_column.proofs.move_order.waiting_on.Goals as goal

pub loop-line-preserved : goal.loop-line-preserved
loop-line-preserved c =
    let rank = rank_on (next_after c.args.ahead.now.uses.items c.args.column) c.args.kept.now in
    let line : ℕ = c.in-Some.line.now in
    let later : List ℕ = c.in-Some.later.now in
    let cut : c.loop-line.rest.now ≡ line ∷ later = search rules in
    let was = rw cut at c.loop-line.invariant in
    record {
      room = omega (arith, was.room, c.push_reserved.ensures.len, c.push_reserved.ensures.capacity);
      held = λ other member. was.held other (member-tail line later other member);
      so_far = ap (λ (l : List Waiting). l ++ map (waiting rank) later) c.push_reserved.ensures.items
          ∙ append_assoc c.loop-line.waiting.items (record { line = line; rank = c.rank-rank.result } ∷ []) (map (waiting rank) later)
          ∙ ap (λ n. c.loop-line.waiting.items ++ (record { line = line; rank = n } ∷ map (waiting rank) later)) c.rank-rank.ensures ∙ was.so_far;
    }
