use Rattle.std.proofs.Common.{ℕ, List, subst}
use Rattle.choose_core.specs.declared.candidate.Candidate.{Candidate}
use Rattle.choose_core.specs.declared.plan.Manner.{Manner}
use Rattle.choose_core.specs.declared.candidate.Next.{Next}
use Rattle.greedy_column.specs.declared.column.Track.{Track}
use Rattle.greedy_column.specs.declared.span.Span.{Span}
use Rattle.greedy_column.specs.Replay.{freed}
use Rattle.greedy_column.specs.Lines.{held_lines, free_lines}
use Rattle.greedy_column.specs.Joining.{neighbours}
use Rattle.greedy_column.specs.Ending.{EndsFollow, groups, joined_pairs}
use Rattle.greedy_column.specs.Moving.{IsOrderOfMoves, MovesFollow, movable_lines}
use Rattle.greedy_column.specs.Follows.{AreEndsTold, AreJoinsTold, AreMovesTold, FollowsOn}

-- the steps, as they are told one by one
pub FollowsOn-from_told : (manner : Manner) (may : List Candidate → ℕ → Type 0) (next : ℕ → Next) (now : List Track) (spans drawn : List Span)
    (joins : List (ℕ × ℕ)) (ended : List ℕ) (moves : List (ℕ × ℕ)) → AreJoinsTold may next now spans drawn joins → AreEndsTold may next now drawn ended
    → AreMovesTold manner may next now (freed ended now) drawn moves → FollowsOn manner may next now spans joins ended moves
FollowsOn-from_told manner may next now spans drawn joins ended moves j e m = record {
  joined = j.joined;
  ending = e.ending;
  order = m.order;
  moving = m.moving;
  joins_follow = j.follow;
  ends_follow = subst (λ (l : List Span). EndsFollow may next now l (groups (joined_pairs l (neighbours now)) (held_lines now)) e.ending) j.grown e.follow;
  ordered = subst (λ (l : List Span). IsOrderOfMoves manner next (freed ended now) (movable_lines l (free_lines now) (freed ended now)) m.order) j.grown m.ordered;
  moves_follow = subst (λ (l : List Span). MovesFollow may next now (freed ended now) m.order l (free_lines now) m.moving) j.grown m.follow;
  joins_told = j.told;
  ends_told = e.told;
  moves_told = m.told;
}
