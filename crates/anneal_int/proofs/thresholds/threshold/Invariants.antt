use Rattle.std.proofs.Common.{◌≡◌}
use Rattle.anneal_int.specs.Threshold.{threshold}
use Rattle.anneal_int.proofs.thresholds.threshold.Given as goal

abbrev pub invariant-loop-i : goal.invariant-loop-i
invariant-loop-i l = l.last ≡ threshold l._i
