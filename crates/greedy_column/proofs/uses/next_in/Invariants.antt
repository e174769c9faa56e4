use Rattle.std.proofs.Common.{◌≡◌, length}
use Rattle.greedy_column.specs.Uses.{next_after}
use Rattle.greedy_column.proofs.uses.next_in.Given as goal

abbrev pub invariant-loop-used : goal.invariant-loop-used
invariant-loop-used l = next_after l.uses l.column l.net ≡ next_after l.rest l.column l.net

abbrev pub decreases-loop-used : goal.decreases-loop-used
decreases-loop-used l = length l.rest
