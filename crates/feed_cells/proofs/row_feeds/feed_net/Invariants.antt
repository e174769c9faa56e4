use Rattle.std.proofs.Common.{◌≡◌, ◌≤◌, ◌&&◌, not, ℕ, slice_get, is_some, nat_le, nat_lt, max}
use Rattle.std.specs.Option.{option_map}
use Rattle.list_facts.specs.Lists.{with_item}
use Rattle.feed_cells.specs.Placement.{through_at}
use Rattle.feed_cells.proofs.row_feeds.feed_net.Given as goal

abbrev pub invariant-loop-row : goal.invariant-loop-row
invariant-loop-row l = record {
  until : l.row ≤ max l.lo l.hi;
  each : (k : ℕ) → slice_get l.feeds k
      ≡ option_map (with_item (nat_le l.lo k && nat_lt k l.row && not (is_some (through_at l.place k))) l.net) (slice_get l.initial.feeds k);
}
