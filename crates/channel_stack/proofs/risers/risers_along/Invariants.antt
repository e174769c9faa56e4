use Rattle.std.proofs.Common.{◌≡◌, ◌<◌, ◌≤◌, ◌+◌, ◌^◌, ◌++◌, length}
use Rattle.feed_cells.specs.Fed.{items_width}
use Rattle.channel_stack.specs.Risers.{risers_along}
use Rattle.channel_stack.proofs.risers.risers_along.Given as goal

abbrev pub invariant-loop-item : goal.invariant-loop-item
invariant-loop-item l = record {
  wide : items_width l.design l.rest ≤ length l.over;
  near : l.left + length l.over < 2 ^ 32;
  so_far : l.risers.items ++ risers_along l.rules l.design l.base l.height l.left l.over l.rest ≡ risers_along l.rules l.design l.base l.height 0 l.nets l.items;
}

abbrev pub decreases-loop-item : goal.decreases-loop-item
decreases-loop-item l = length l.rest
