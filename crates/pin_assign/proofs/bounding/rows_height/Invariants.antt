use Rattle.std.proofs.Common.{◌≡◌, ◌≤◌, ◌+◌, ◌*◌, ◌^◌, length, sum}
use Rattle.pin_assign.proofs.bounding.rows_height.Given as goal

abbrev pub invariant-loop-height : goal.invariant-loop-height
invariant-loop-height l = record {
  low : l.sum + 2 ^ 32 * length l.rest ≤ 2 ^ 42;
  same : l.sum + sum l.rest ≡ sum l.fn.heights;
}

abbrev pub decreases-loop-height : goal.decreases-loop-height
decreases-loop-height l = length l.rest
