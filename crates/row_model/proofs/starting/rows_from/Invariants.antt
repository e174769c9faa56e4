use Rattle.std.proofs.Common.{◌≡◌, ◌<◌, ◌+◌, ◌++◌, length}
use Rattle.row_model.specs.Start.{rows_from}
use Rattle.row_model.proofs.starting.rows_from.Given as goal

abbrev pub invariant-loop-left : goal.invariant-loop-left
invariant-loop-left l = record {
  some : 0 < l.left;
  total : l.first + l.count ≡ length l.design.instances;
  made : l.made.items ++ rows_from l.design l.target l.left l.first l.count ≡ rows_from l.design l.target l.fn.rows 0 (length l.design.instances);
}

abbrev pub decreases-loop-left : goal.decreases-loop-left
decreases-loop-left l = l.left
