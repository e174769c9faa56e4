use Rattle.std.proofs.Common.{◌≡◌, ◌≤◌, ◌+◌}
use Rattle.row_model.specs.Start.{least_rows}
use Rattle.row_model.proofs.starting.least_rows.Given as goal

abbrev pub invariant-loop-left : goal.invariant-loop-left
invariant-loop-left l = record {
  same : least_rows l.area l.height l.left l.rows ≡ least_rows l.area l.height l.more l.first;
  total : l.rows + l.left ≡ l.first + l.more;
  from : l.first ≤ l.rows;
}

abbrev pub decreases-loop-left : goal.decreases-loop-left
decreases-loop-left l = l.left
