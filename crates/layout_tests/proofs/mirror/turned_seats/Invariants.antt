use Rattle.std.proofs.Common.{◌≡◌, ◌++◌, length, map}
use Rattle.layout_tests.specs.Mirrored.{turned}
use Rattle.layout_tests.proofs.mirror.turned_seats.Given as goal

abbrev pub invariant-loop-seat : goal.invariant-loop-seat
invariant-loop-seat l = l.turned.items ++ map turned l.rest ≡ map turned l.fn.seats

abbrev pub decreases-loop-seat : goal.decreases-loop-seat
decreases-loop-seat l = length l.rest
