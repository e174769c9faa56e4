use Rattle.choose_core.specs.Styles.{gap_of, is_own}
use Rattle.choose_core.proofs.Best.{IsFarthestOf, keyed, passing}
use Rattle.choose_core.proofs.styles.farthest_own.Given as goal

abbrev pub invariant-loop-place : goal.invariant-loop-place
invariant-loop-place l = IsFarthestOf (passing is_own l.list) (keyed gap_of l.list) l.place l.best
