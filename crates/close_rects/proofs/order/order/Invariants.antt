use Rattle.std.proofs.Common.{◌-◌, ◌<◌, length}
use Rattle.std.specs.List.Sorted.{IsPermutation}
use Rattle.close_rects.proofs.order.order.Given as goal

abbrev pub invariant-loop-size : goal.invariant-loop-size
invariant-loop-size l = 0 < l.size

abbrev pub decreases-loop-size : goal.decreases-loop-size
decreases-loop-size l = length l.items - l.size

abbrev pub invariant-loop-size-2 : goal.invariant-loop-size-2
invariant-loop-size-2 l = IsPermutation l.fn.items l.items

abbrev pub decreases-loop-size-2 : goal.decreases-loop-size-2
decreases-loop-size-2 l = l.size
