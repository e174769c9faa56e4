use Rattle.std.proofs.Common.{◌≡◌, ◌≤◌, ◌++◌, ℕ, List, Some, filter, length, slice_get}
use Rattle.std.specs.Option.{option_map}
use Rattle.feed_cells.specs.RowFeeds.{is_at_place}
use Rattle.feed_cells.proofs.row_feeds.feeds_by_place.Given as goal

abbrev pub invariant-loop-net : goal.invariant-loop-net
invariant-loop-net l = (place : ℕ) → place ≤ length l.lefts
    → option_map (λ (nets : List ℕ). nets ++ filter (is_at_place l.nets l.lefts place) l.rest) (slice_get l.feeds place)
    ≡ Some (filter (is_at_place l.nets l.lefts place) l.fn.row)

abbrev pub decreases-loop-net : goal.decreases-loop-net
decreases-loop-net l = length l.rest
