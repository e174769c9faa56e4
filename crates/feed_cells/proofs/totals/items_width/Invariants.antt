use Rattle.std.proofs.Common.{◌≡◌, ◌+◌, ◌^◌, ◌<◌, length}
use Rattle.feed_cells.specs.Fed.{items_width}
use Rattle.feed_cells.proofs.totals.items_width.Given as goal

abbrev pub invariant-loop-item : goal.invariant-loop-item
invariant-loop-item l = items_width l.design l.fn.items < 2 ^ 64 → l.width + items_width l.design l.rest ≡ items_width l.design l.fn.items

abbrev pub decreases-loop-item : goal.decreases-loop-item
decreases-loop-item l = length l.rest
