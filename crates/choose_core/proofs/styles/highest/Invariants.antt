use Rattle.choose_core.specs.Styles.{track_of}
use Rattle.choose_core.proofs.Best.{IsLastOf, keyed}
use Rattle.choose_core.proofs.styles.highest.Given as goal

abbrev pub invariant-loop-place : goal.invariant-loop-place
invariant-loop-place l = IsLastOf (keyed track_of l.list) l.place l.best
