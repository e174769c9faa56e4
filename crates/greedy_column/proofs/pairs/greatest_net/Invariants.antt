use Rattle.std.proofs.Common.{◌<◌, ◌≤◌, ℕ, get_or}
use Rattle.greedy_column.specs.declared.column.Track.{Track}
use Rattle.greedy_column.proofs.pairs.greatest_net.Given as goal

abbrev pub invariant-loop-track : goal.invariant-loop-track
invariant-loop-track l = (k : ℕ) (none : Track) → k < l.track-index → (get_or l.tracks k none).net ≤ l.most
