use Rattle.std.proofs.Common.{◌≡◌, ◌≤◌, ◌+◌, ◌++◌, length, vec_capacity, vec_len}
use Rattle.greedy_column.specs.Lines.{lines_from, is_sought}
use Rattle.greedy_column.specs.declared.lines.Sought.TheVariants.{Open, Own}
use Rattle.greedy_column.proofs.tracks.Tracks.lists_for_both.Given as goal

abbrev pub invariant-loop-track : goal.invariant-loop-track
invariant-loop-track l = record {
  one_room : vec_len l.one_all + length l.rest ≤ vec_capacity l.one_all;
  other_room : vec_len l.other_all + length l.rest ≤ vec_capacity l.other_all;
  counted : l.line + length l.rest ≡ 1 + length l.self;
  one_all_so_far : l.one_all.items ++ lines_from (is_sought (Open l.one)) l.line l.rest ≡ lines_from (is_sought (Open l.one)) 1 l.self;
  one_own_so_far : l.one_own.items ++ lines_from (is_sought (Own l.one)) l.line l.rest ≡ lines_from (is_sought (Own l.one)) 1 l.self;
  other_all_so_far : l.other_all.items ++ lines_from (is_sought (Open l.other)) l.line l.rest ≡ lines_from (is_sought (Open l.other)) 1 l.self;
  other_own_so_far : l.other_own.items ++ lines_from (is_sought (Own l.other)) l.line l.rest ≡ lines_from (is_sought (Own l.other)) 1 l.self;
}

abbrev pub decreases-loop-track : goal.decreases-loop-track
decreases-loop-track l = length l.rest
