use Rattle.std.proofs.Common.{◌≡◌, ◌≤◌, ◌+◌, ◌++◌, length, vec_capacity, vec_len}
use Rattle.greedy_column.specs.Lines.{lines_from, is_sought}
use Rattle.greedy_column.specs.declared.lines.Sought.TheVariants.{Open, Own}
use Rattle.greedy_column.proofs.tracks.Tracks.lists_for.Given as goal

abbrev pub invariant-loop-track : goal.invariant-loop-track
invariant-loop-track l = record {
  room : vec_len l.all + length l.rest ≤ vec_capacity l.all;
  counted : l.line + length l.rest ≡ 1 + length l.self;
  all_so_far : l.all.items ++ lines_from (is_sought (Open l.net)) l.line l.rest ≡ lines_from (is_sought (Open l.net)) 1 l.self;
  own_so_far : l.own.items ++ lines_from (is_sought (Own l.net)) l.line l.rest ≡ lines_from (is_sought (Own l.net)) 1 l.self;
}

abbrev pub decreases-loop-track : goal.decreases-loop-track
decreases-loop-track l = length l.rest
