use Rattle.greedy_column.proofs.StartLaws.{HaveStarts}
use Rattle.greedy_column.proofs.starts.starts_of.Given as goal

abbrev pub invariant-loop-place : goal.invariant-loop-place
invariant-loop-place l = HaveStarts l.uses l.place l.starts.items
