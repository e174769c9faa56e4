use Rattle.std.proofs.Common.{length}
use Rattle.greedy_column.specs.Desk.{MarksWithin}
use Rattle.greedy_column.proofs.marks.unmark.Given as goal

abbrev pub invariant-loop-pair : goal.invariant-loop-pair
invariant-loop-pair l = MarksWithin l.rest l.marks.items

abbrev pub decreases-loop-pair : goal.decreases-loop-pair
decreases-loop-pair l = length l.rest
