use Rattle.std.proofs.Common.{◌≡◌, ◌+◌, ◌++◌, length}
use Rattle.greedy_column.specs.Ending.{ends_alone}
use Rattle.greedy_column.specs.Lines.{lines_from}
use Rattle.greedy_column.proofs.ending.lone_ends.Given as goal

abbrev pub invariant-loop-track : goal.invariant-loop-track
invariant-loop-track l = record {
  counted : l.line + length l.rest ≡ 1 + length l.tracks;
  so_far : l.ending.items ++ lines_from (ends_alone l.lasts l.marks l.column) l.line l.rest ≡ lines_from (ends_alone l.lasts l.marks l.column) 1 l.tracks;
}

abbrev pub decreases-loop-track : goal.decreases-loop-track
decreases-loop-track l = length l.rest
