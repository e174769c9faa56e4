use Rattle.greedy_column.specs.State.{IsState}
use Rattle.column_tests.proofs.wide_tests.first_crowded_other.Given as goal

abbrev pub invariant-loop-column : goal.invariant-loop-column
invariant-loop-column g l = IsState l.channel l.state
