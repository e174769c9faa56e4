use Rattle.std.proofs.Common.{◌≡◌, ◌++◌, length}
use Rattle.greedy_router.specs.Columns.{AreAlike, columns_in}
use Rattle.greedy_router.proofs.columns.Columns.pack.Given as goal

abbrev pub invariant-loop-column : goal.invariant-loop-column
invariant-loop-column l = record {
  alike : AreAlike l.parts;
  whole : columns_in l.parts ++ l.rest ≡ l.columns;
}

abbrev pub decreases-loop-column : goal.decreases-loop-column
decreases-loop-column l = length l.rest
