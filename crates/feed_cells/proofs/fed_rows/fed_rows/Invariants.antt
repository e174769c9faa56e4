use Rattle.std.proofs.Common.{◌≡◌, ◌+◌, ◌++◌, length}
use Rattle.row_model.specs.NearStands.{AreShort}
use Rattle.feed_cells.specs.Fed.{fed_from}
use Rattle.feed_cells.specs.RowFeeds.{AreFeeds}
use Rattle.feed_cells.proofs.fed_rows.fed_rows.Given as goal

abbrev pub invariant-loop-seats : goal.invariant-loop-seats
invariant-loop-seats l = record {
  few : l.row + length l.rest ≡ length l.rows;
  short : AreShort l.rest;
  same : AreFeeds l.design l.rows l.nets l.feeds → l.fed.items ++ fed_from l.design l.rows l.row l.rest ≡ fed_from l.design l.rows 0 l.rows;
}

abbrev pub decreases-loop-seats : goal.decreases-loop-seats
decreases-loop-seats l = length l.rest
