use Rattle.std.proofs.Common.{◌≡◌, ◌<◌, eqb, ℕ, length}
use Rattle.std.specs.Prelude.{◌||◌}
use Rattle.std.specs.List.{list_any}
use Rattle.greedy_router.specs.Marks.{is_marked}
use Rattle.greedy_router.proofs.marks.Marks.add_firsts.Given as goal

abbrev pub invariant-loop-pair : goal.invariant-loop-pair
invariant-loop-pair l = record {
  marked : (other : ℕ) → other < length l.fn.self.rounds.items
      → (is_marked l.self.rounds.items l.self.round other || list_any (λ (pair : ℕ × ℕ). eqb pair.0 other) l.rest)
      ≡ (is_marked l.fn.self.rounds.items l.fn.self.round other || list_any (λ (pair : ℕ × ℕ). eqb pair.0 other) l.pairs);
  round : l.self.round ≡ l.fn.self.round;
  long : length l.self.rounds.items ≡ length l.fn.self.rounds.items;
}

abbrev pub decreases-loop-pair : goal.decreases-loop-pair
decreases-loop-pair l = length l.rest
