use Rattle.std.proofs.Common.{◌≡◌, ◌<◌, eqb, ℕ, length}
use Rattle.std.specs.Prelude.{◌||◌}
use Rattle.std.specs.List.{list_any}
use Rattle.greedy_router.specs.Marks.{is_marked}
use Rattle.greedy_router.proofs.marks.Marks.add_all.Given as goal

abbrev pub invariant-loop-id : goal.invariant-loop-id
invariant-loop-id l = record {
  marked : (other : ℕ) → other < length l.fn.self.rounds.items
      → (is_marked l.self.rounds.items l.self.round other || list_any (λ one. eqb one other) l.rest)
      ≡ (is_marked l.fn.self.rounds.items l.fn.self.round other || list_any (λ one. eqb one other) l.ids);
  round : l.self.round ≡ l.fn.self.round;
  long : length l.self.rounds.items ≡ length l.fn.self.rounds.items;
}

abbrev pub decreases-loop-id : goal.decreases-loop-id
decreases-loop-id l = length l.rest
