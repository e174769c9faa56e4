use Rattle.std.proofs.Common.{◌≡◌, ◌<◌, ℕ}
use Rattle.geom_extract.specs.Walks.{IsFree}
use Rattle.geom_extract.proofs.walked.Classes.all.Given as goal

abbrev pub invariant-loop-start : goal.invariant-loop-start
invariant-loop-start l = record { web : l.classes.web ≡ l.web; done : (x : ℕ) → x < l.start → IsFree l.classes.classes x → ⊥ }
