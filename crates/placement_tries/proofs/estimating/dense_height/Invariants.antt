use Rattle.std.proofs.Common.{◌≡◌, ◌≤◌, ◌+◌, ◌*◌, ◌^◌, length}
use Rattle.placement_tries.specs.Estimate.{dense_height}
use Rattle.placement_tries.proofs.estimating.dense_height.Given as goal

-- the height so far and that of the channels that are left is that of all
abbrev pub invariant-loop-channel : goal.invariant-loop-channel
invariant-loop-channel l = record {
  low : l.height + 2 ^ 32 * 1000 * length l.rest ≤ 2 ^ 53;
  same : l.height + dense_height l.rules l.rest ≡ dense_height l.rules l.fn.channels;
}

abbrev pub decreases-loop-channel : goal.decreases-loop-channel
decreases-loop-channel l = length l.rest
