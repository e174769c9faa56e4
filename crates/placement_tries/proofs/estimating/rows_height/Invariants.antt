use Rattle.std.proofs.Common.{◌≡◌, ◌≤◌, ◌+◌, ◌*◌, ◌^◌, length, sum}
use Rattle.placement_tries.proofs.estimating.rows_height.Given as goal

-- the height so far and that of the rows that are left is that of all
abbrev pub invariant-loop-row : goal.invariant-loop-row
invariant-loop-row l = record {
  low : l.height + 2 ^ 32 * length l.rest ≤ 2 ^ 42;
  same : l.height + sum l.rest ≡ sum l.fn.heights;
}

abbrev pub decreases-loop-row : goal.decreases-loop-row
decreases-loop-row l = length l.rest
