use Rattle.std.proofs.Common.{◌≡◌, ◌++◌, length, map}
use Rattle.feed_cells.specs.declared.fed.Item.TheVariants.{Feed}
use Rattle.feed_cells.proofs.row_items.push_feeds.Given as goal

abbrev pub invariant-loop-net : goal.invariant-loop-net
invariant-loop-net l = l.items.items ++ map Feed l.rest ≡ l.initial.items.items ++ map Feed l.fn.nets

abbrev pub decreases-loop-net : goal.decreases-loop-net
decreases-loop-net l = length l.rest
