use Rattle.std.proofs.Common.{◌≡◌, ◌||◌, ℕ, length}
use Rattle.greedy_column.specs.Desk.{is_marked}
use Rattle.greedy_column.specs.Ending.{is_split}
use Rattle.greedy_column.proofs.marks.mark_split.Given as goal

abbrev pub invariant-loop-pair : goal.invariant-loop-pair
invariant-loop-pair l = (net : ℕ) → (is_marked l.marks.items net || is_split l.spans l.rest net) ≡ is_split l.spans l.pairs net

abbrev pub decreases-loop-pair : goal.decreases-loop-pair
decreases-loop-pair l = length l.rest
