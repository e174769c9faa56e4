use Rattle.std.proofs.Common.{◌≡◌, ◌+◌, ◌++◌, length}
use Rattle.feed_cells.specs.Fed.{items_width}
use Rattle.channel_stack.specs.Stack.{placed_from}
use Rattle.channel_stack.proofs.places.placed_row.Given as goal

abbrev pub invariant-loop-item : goal.invariant-loop-item
invariant-loop-item l = record {
  so_far : l.placed.items ++ placed_from l.rules l.design l.base l.left l.rest ≡ placed_from l.rules l.design l.base 0 l.items;
  width : l.left + items_width l.design l.rest ≡ items_width l.design l.items;
}

abbrev pub decreases-loop-item : goal.decreases-loop-item
decreases-loop-item l = length l.rest
