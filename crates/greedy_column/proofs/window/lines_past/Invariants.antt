use Rattle.std.proofs.Common.{◌≡◌, ◌<◌, ◌^◌, ◌&&◌, ℕ, length}
use Rattle.greedy_column.specs.Joining.{is_clear}
use Rattle.greedy_column.specs.Moving.{is_within, piece_between}
use Rattle.greedy_column.proofs.window.lines_past.Given as goal

abbrev pub invariant-loop-vertical : goal.invariant-loop-vertical
invariant-loop-vertical l =
    (other : ℕ) → other < 2 ^ 32 → (is_within l.window other && is_clear l.rest (piece_between l.net l.line other)) ≡ is_clear l.spans (piece_between l.net l.line other)

abbrev pub decreases-loop-vertical : goal.decreases-loop-vertical
decreases-loop-vertical l = length l.rest
