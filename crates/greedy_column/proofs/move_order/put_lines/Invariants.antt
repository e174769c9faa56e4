use Rattle.std.proofs.Common.{◌≡◌, ◌≤◌, ◌+◌, ◌++◌, length, map, vec_capacity, vec_len}
use Rattle.greedy_column.specs.declared.move_order.Waiting.{Waiting}
use Rattle.greedy_column.proofs.move_order.put_lines.Given as goal

abbrev pub invariant-loop-one : goal.invariant-loop-one
invariant-loop-one l = record {
  room : vec_len l.lines + length l.rest ≤ vec_capacity l.lines;
  so_far : l.lines.items ++ map (λ (w : Waiting). w.line) l.rest ≡ map (λ (w : Waiting). w.line) l.waiting;
}

abbrev pub decreases-loop-one : goal.decreases-loop-one
decreases-loop-one l = length l.rest
