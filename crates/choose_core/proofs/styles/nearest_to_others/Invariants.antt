use Rattle.choose_core.specs.Styles.{pull_of}
use Rattle.choose_core.proofs.Best.{IsFirstOf, keyed}
use Rattle.choose_core.proofs.styles.nearest_to_others.Given as goal

abbrev pub invariant-loop-place : goal.invariant-loop-place
invariant-loop-place l = IsFirstOf (keyed pull_of l.list) l.place l.best
