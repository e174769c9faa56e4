use Rattle.std.proofs.Common.{◌≡◌, length, map}
use Rattle.greedy_column.specs.Lines.{id_on}
use Rattle.greedy_column.specs.Replay.{freed}
use Rattle.greedy_column.specs.Tracks.{ids}
use Rattle.greedy_column.proofs.tracks.Tracks.free.Given as goal

abbrev pub invariant-loop-line : goal.invariant-loop-line
invariant-loop-line l = record {
  ids : ids l.self ≡ ids l.fn.self;
  so_far : freed (map (id_on l.fn.self) l.rest) l.self ≡ freed (map (id_on l.fn.self) l.lines) l.fn.self;
}

abbrev pub decreases-loop-line : goal.decreases-loop-line
decreases-loop-line l = length l.rest
