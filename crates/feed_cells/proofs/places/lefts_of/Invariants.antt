use Rattle.std.proofs.Common.{◌≡◌, ◌+◌, ◌*◌, ◌≤◌, ◌++◌, length}
use Rattle.feed_cells.specs.Feeds.{lefts_of}
use Rattle.feed_cells.proofs.places.lefts_of.Given as goal

abbrev pub invariant-loop-seat : goal.invariant-loop-seat
invariant-loop-seat l = record {
  near : l.left + 100000000 * length l.rest ≤ 2000000000000;
  same : l.lefts.items ++ lefts_of l.design l.left l.rest ≡ lefts_of l.design 0 l.seats;
}

abbrev pub decreases-loop-seat : goal.decreases-loop-seat
decreases-loop-seat l = length l.rest
