use Rattle.left_edge.specs.Swept.{IsSwept}
use Rattle.left_edge.proofs.sweep.sweep_columns.Given as goal

abbrev pub invariant-loop-column : goal.invariant-loop-column
invariant-loop-column l = IsSwept l.spanned.channel.now l.column l.column l.sweep
