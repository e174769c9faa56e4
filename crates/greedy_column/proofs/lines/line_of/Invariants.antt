use Rattle.std.proofs.Common.{◌≡◌, ◌<◌, ◌+◌, length}
use Rattle.greedy_column.specs.Tracks.{ids, line_of}
use Rattle.greedy_column.proofs.lines.line_of.Given as goal

abbrev pub invariant-loop-track : goal.invariant-loop-track
invariant-loop-track l = record {
  begun : 0 < l.line;
  counted : l.line + length l.rest ≡ 1 + length l.tracks;
  so_far : l.line + line_of (ids l.rest) l.id ≡ line_of (ids l.tracks) l.id + 1;
}

abbrev pub decreases-loop-track : goal.decreases-loop-track
decreases-loop-track l = length l.rest
