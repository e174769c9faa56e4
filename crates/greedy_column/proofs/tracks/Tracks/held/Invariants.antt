use Rattle.std.proofs.Common.{◌≡◌, ◌≤◌, ◌+◌, eqb, length}
use Rattle.std.specs.List.{count_by}
use Rattle.greedy_column.specs.declared.column.Track.{Track}
use Rattle.greedy_column.proofs.tracks.Tracks.held.Given as goal

abbrev pub invariant-loop-track : goal.invariant-loop-track
invariant-loop-track l = record {
  few : l.held + length l.rest ≤ length l.self;
  so_far : l.held + count_by (λ (t : Track). eqb t.net l.net) l.rest ≡ count_by (λ (t : Track). eqb t.net l.net) l.self;
}

abbrev pub decreases-loop-track : goal.decreases-loop-track
decreases-loop-track l = length l.rest
