use Rattle.std.proofs.Common.{◌≡◌, ◌≤◌, ◌+◌, ◌++◌, length, vec_capacity, vec_len}
use Rattle.greedy_column.specs.Lines.{is_sought, lines_from}
use Rattle.greedy_column.proofs.tracks.Tracks.lines_where.Given as goal

abbrev pub invariant-loop-track : goal.invariant-loop-track
invariant-loop-track l = record {
  room : vec_len l.lines + length l.rest ≤ vec_capacity l.lines;
  counted : l.line + length l.rest ≡ 1 + length l.self;
  so_far : l.lines.items ++ lines_from (is_sought l.sought) l.line l.rest ≡ lines_from (is_sought l.sought) 1 l.self;
}

abbrev pub decreases-loop-track : goal.decreases-loop-track
decreases-loop-track l = length l.rest
