use Rattle.std.proofs.Common.{◌≡◌, ◌++◌, length}
use Rattle.layout_tests.specs.Mirrored.{turned_rows}
use Rattle.layout_tests.proofs.mirror.turned_rows.Given as goal

abbrev pub invariant-loop-seats : goal.invariant-loop-seats
invariant-loop-seats l = l.turned.items ++ turned_rows l.rest ≡ turned_rows l.fn.rows

abbrev pub decreases-loop-seats : goal.decreases-loop-seats
decreases-loop-seats l = length l.rest
