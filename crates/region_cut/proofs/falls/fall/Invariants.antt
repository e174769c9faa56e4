use Rattle.std.proofs.Common.{◌-◌, length}
use Rattle.region_cut.proofs.FallLaws.{IsOver}
use Rattle.region_cut.proofs.falls.fall.Given as goal

abbrev pub invariant-loop-next : goal.invariant-loop-next
invariant-loop-next l = IsOver l.tops l.column l.next

abbrev pub decreases-loop-next : goal.decreases-loop-next
decreases-loop-next l = length l.tops - l.next
