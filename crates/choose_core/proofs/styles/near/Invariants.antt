use Rattle.choose_core.specs.Styles.{gap_of}
use Rattle.choose_core.proofs.Best.{IsFirstOf, keyed}
use Rattle.choose_core.proofs.styles.near.Given as goal

abbrev pub invariant-loop-place : goal.invariant-loop-place
invariant-loop-place l = IsFirstOf (keyed gap_of l.list) l.place l.best
