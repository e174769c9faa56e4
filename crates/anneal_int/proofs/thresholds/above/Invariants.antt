use Rattle.std.proofs.Common.{◌≡◌, ◌≤◌, ◌<◌, ◌-◌, ℕ}
use Rattle.anneal_int.specs.Threshold.{threshold}
use Rattle.anneal_int.proofs.thresholds.above.Given as goal

abbrev pub invariant-loop-count : goal.invariant-loop-count
invariant-loop-count l = record {
  last : l.last ≡ threshold l.count;
  some : l.count ≤ 64;
  above : (i : ℕ) → i < l.count → l.number < threshold i;
}

abbrev pub decreases-loop-count : goal.decreases-loop-count
decreases-loop-count l = 64 - l.count
