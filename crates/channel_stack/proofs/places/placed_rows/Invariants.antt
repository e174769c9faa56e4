use Rattle.std.proofs.Common.{◌≡◌, ◌<◌, ◌^◌, ◌++◌, List, length}
use Rattle.std.specs.List.{AllByRecursion}
use Rattle.feed_cells.specs.Fed.{items_width}
use Rattle.feed_cells.specs.declared.fed.Item.{Item}
use Rattle.channel_stack.specs.Stack.{placed_rows}
use Rattle.channel_stack.proofs.places.placed_rows.Given as goal

abbrev pub invariant-loop-items : goal.invariant-loop-items
invariant-loop-items l = record {
  so_far : l.placed.items ++ placed_rows l.rules l.design l.rest l.edges ≡ placed_rows l.rules l.design l.rows l.bases;
  narrow : AllByRecursion (λ (items : List Item). items_width l.design items < 2 ^ 39) l.rest;
}

abbrev pub decreases-loop-items : goal.decreases-loop-items
decreases-loop-items l = length l.rest
