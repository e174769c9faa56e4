use Rattle.std.proofs.Common.{◌≡◌, ◌≤◌, ◌+◌, ◌++◌, length, map, vec_capacity, vec_len}
use Rattle.greedy_column.specs.Moving.{AreHeld, rank_on, waiting}
use Rattle.greedy_column.specs.Uses.{next_after}
use Rattle.greedy_column.proofs.move_order.waiting_on.Given as goal

abbrev pub invariant-loop-line : goal.invariant-loop-line
invariant-loop-line l = record {
  room : vec_len l.waiting + length l.rest ≤ vec_capacity l.waiting;
  held : AreHeld l.kept l.rest;
  so_far : l.waiting.items ++ map (waiting (rank_on (next_after l.ahead.uses.items l.column) l.kept)) l.rest
      ≡ map (waiting (rank_on (next_after l.ahead.uses.items l.column) l.kept)) l.lines;
}

abbrev pub decreases-loop-line : goal.decreases-loop-line
decreases-loop-line l = length l.rest
