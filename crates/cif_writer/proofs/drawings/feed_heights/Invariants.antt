use Rattle.std.proofs.Common.{◌≡◌, ◌++◌, fold, length}
use Rattle.std.specs.BTreeSet.{btree_set_len, insert_key}
use Rattle.std.specs.Ordering.{nat_cmp}
use Rattle.cif_writer.specs.FeedHeights.{fed_heights, feed_heights}
use Rattle.cif_writer.proofs.drawings.feed_heights.Given as goal

abbrev pub invariant-loop-height : goal.invariant-loop-height
invariant-loop-height l = fold (insert_key nat_cmp) l.found.keys (fed_heights l.heights l.rest) ≡ feed_heights l.fed

abbrev pub decreases-loop-height : goal.decreases-loop-height
decreases-loop-height l = length l.heights

abbrev pub invariant-loop-lowest : goal.invariant-loop-lowest
invariant-loop-lowest l = l.ascending.items ++ l.found.keys ≡ feed_heights l.fed

abbrev pub decreases-loop-lowest : goal.decreases-loop-lowest
decreases-loop-lowest l = btree_set_len l.found
