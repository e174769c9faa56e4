use Rattle.std.proofs.Common.{◌≡◌, ◌+◌, ◌≤◌, ◌++◌, length}
use Rattle.feed_cells.specs.RowFeeds.{laid}
use Rattle.feed_cells.proofs.row_items.row_items.Given as goal

abbrev pub invariant-loop-seat : goal.invariant-loop-seat
invariant-loop-seat l = record {
  few : l.place + length l.rest ≤ 20000;
  same : l.items.items ++ laid l.feeds l.place l.rest ≡ laid l.feeds 0 l.fn.seats;
}

abbrev pub decreases-loop-seat : goal.decreases-loop-seat
decreases-loop-seat l = length l.rest
