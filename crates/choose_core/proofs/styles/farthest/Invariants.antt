use Rattle.std.proofs.Common.{true}
use Rattle.choose_core.specs.Styles.{gap_of}
use Rattle.choose_core.proofs.Best.{IsFarthestOf, keyed, passing}
use Rattle.choose_core.proofs.styles.farthest.Given as goal

abbrev pub invariant-loop-place : goal.invariant-loop-place
invariant-loop-place l = IsFarthestOf (passing (λ _. true) l.list) (keyed gap_of l.list) l.place l.best
