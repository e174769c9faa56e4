use Rattle.std.proofs.Common.{◌<◌, ℕ}
use Rattle.left_edge.specs.Columns.{IsConstrained}
use Rattle.left_edge.proofs.columns.first_constrained.Given as goal

abbrev pub invariant-loop-column : goal.invariant-loop-column
invariant-loop-column l = (k : ℕ) → k < l.column → ¬ IsConstrained l.channel k
