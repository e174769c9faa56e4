use Rattle.std.proofs.Common.{◌≡◌, ◌≤◌, length}
use Rattle.greedy_column.specs.Offers.{least_distance}
use Rattle.greedy_column.proofs.question.least_distance.Given as goal

abbrev pub invariant-loop-other : goal.invariant-loop-other
invariant-loop-other l = record {
  same : least_distance l.line l.least l.rest ≡ least_distance l.line l.first l.others;
  within : l.least ≤ l.first;
}

abbrev pub decreases-loop-other : goal.decreases-loop-other
decreases-loop-other l = length l.rest
