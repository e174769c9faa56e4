use Rattle.std.proofs.Common.{◌≡◌, ◌+◌, ℕ, length}
use Rattle.greedy_column.specs.Lawful.{AreMadeFrom}
use Rattle.greedy_column.specs.Replay.{with_made}
use Rattle.greedy_column.proofs.stepping.with_made.Given as goal

abbrev pub invariant-loop-one : goal.invariant-loop-one
invariant-loop-one l = record {
  placed : (fresh : ℕ) × AreMadeFrom fresh (length l.tracks.items) l.rest;
  so_far : with_made l.tracks.items l.rest ≡ with_made l.fn.tracks.items l.made;
  long : length l.tracks.items + length l.rest ≡ length l.fn.tracks.items + length l.made;
}

abbrev pub decreases-loop-one : goal.decreases-loop-one
decreases-loop-one l = length l.rest
