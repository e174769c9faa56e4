use Rattle.std.proofs.Common.{◌≡◌, ◌≤◌, ◌+◌, ◌++◌, suc, length, vec_capacity, vec_len}
use Rattle.greedy_column.specs.Moving.{IsStretch, movable_lines}
use Rattle.greedy_column.proofs.StretchLaws.{movable_from}
use Rattle.greedy_column.proofs.move_order.movable_of.Given as goal

abbrev pub invariant-loop-track : goal.invariant-loop-track
invariant-loop-track l = record {
  room : vec_len l.lines + length l.rest ≤ vec_capacity l.lines;
  counted : l.line + length l.rest ≡ length l.kept;
  stretch : IsStretch l.spans l.free (record { window = record { low = l.low; high = l.high }; has_free = l.has_free });
  so_far : l.lines.items ++ movable_from l.spans l.free (suc l.line) l.rest ≡ movable_lines l.spans l.free l.kept;
}

abbrev pub decreases-loop-track : goal.decreases-loop-track
decreases-loop-track l = length l.rest
