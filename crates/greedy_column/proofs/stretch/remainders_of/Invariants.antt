use Rattle.std.proofs.Common.{◌≡◌, ℕ, false, length}
use Rattle.greedy_column.specs.Moving.{is_foreign, may_have}
use Rattle.greedy_column.proofs.stretch.remainders_of.Given as goal

abbrev pub invariant-loop-vertical : goal.invariant-loop-vertical
invariant-loop-vertical l = record {
  long : length l.remainders ≡ 64;
  told : (net : ℕ) → may_have l.remainders net ≡ false → is_foreign l.rest net ≡ is_foreign l.spans net;
}

abbrev pub decreases-loop-vertical : goal.decreases-loop-vertical
decreases-loop-vertical l = length l.rest
