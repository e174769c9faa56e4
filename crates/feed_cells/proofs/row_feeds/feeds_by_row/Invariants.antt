use Rattle.std.proofs.Common.{◌≡◌, ◌+◌, ◌≤◌, ◌<◌, ◌++◌, ℕ, List, Some, length, slice_get}
use Rattle.std.specs.Option.{option_map}
use Rattle.feed_cells.specs.RowFeeds.{nets_fed}
use Rattle.feed_cells.proofs.row_feeds.feeds_by_row.Given as goal

abbrev pub invariant-loop-place : goal.invariant-loop-place
invariant-loop-place l = record {
  few : l.net + length l.rest ≤ 200001;
  each : (row : ℕ) → row < l.rows → option_map (λ (nets : List ℕ). nets ++ nets_fed row l.net l.rest) (slice_get l.feeds row) ≡ Some (nets_fed row 1 l.fn.nets);
}

abbrev pub decreases-loop-place : goal.decreases-loop-place
decreases-loop-place l = length l.rest
