use Rattle.std.proofs.Common.{◌-◌}
use Rattle.region_cut.proofs.ReachLaws.{Parted}
use Rattle.region_cut.proofs.marks.line_from.Given as goal

abbrev pub invariant-loop-low : goal.invariant-loop-low
invariant-loop-low l = Parted l.across l.place l.low l.high

abbrev pub decreases-loop-low : goal.decreases-loop-low
decreases-loop-low l = l.high - l.low
