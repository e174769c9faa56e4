use Rattle.std.proofs.Common.{◌≡◌, length, fold, map, max}
use Rattle.feed_cells.specs.Fed.{items_width}
use Rattle.feed_cells.specs.Sizes.{AreNarrow}
use Rattle.feed_cells.proofs.totals.greatest_width.Given as goal

abbrev pub invariant-loop-items : goal.invariant-loop-items
invariant-loop-items l = record {
  narrow : AreNarrow l.design l.fn.rows → AreNarrow l.design l.rest;
  same : AreNarrow l.design l.fn.rows → fold max l.width (map (items_width l.design) l.rest) ≡ fold max 0 (map (items_width l.design) l.fn.rows);
}

abbrev pub decreases-loop-items : goal.decreases-loop-items
decreases-loop-items l = length l.rest
