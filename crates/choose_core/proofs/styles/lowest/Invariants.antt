use Rattle.choose_core.specs.Styles.{track_of}
use Rattle.choose_core.proofs.Best.{IsFirstOf, keyed}
use Rattle.choose_core.proofs.styles.lowest.Given as goal

abbrev pub invariant-loop-place : goal.invariant-loop-place
invariant-loop-place l = IsFirstOf (keyed track_of l.list) l.place l.best
