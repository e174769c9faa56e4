use Rattle.std.proofs.Common.{◌≤◌, length}
use Rattle.region_cut.specs.Falls.{AreFalls}
use Rattle.region_cut.proofs.falls.falls.Given as goal

abbrev pub invariant-loop-column : goal.invariant-loop-column
invariant-loop-column l = record {
  within : l.column ≤ length l.tops;
  falls : AreFalls l.tops l.column l.falls.items;
}

abbrev pub decreases-loop-column : goal.decreases-loop-column
decreases-loop-column l = l.column
