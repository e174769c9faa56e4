use Rattle.std.proofs.Common.{◌≡◌, ◌≤◌, ◌&&◌, ℕ, slice_get, nat_le, nat_lt, max}
use Rattle.std.specs.Option.{option_map}
use Rattle.feed_cells.specs.Sizes.{one_more_if}
use Rattle.feed_cells.proofs.totals.count_net.Given as goal

abbrev pub invariant-loop-channel : goal.invariant-loop-channel
invariant-loop-channel l = record {
  until : l.channel ≤ max l.first l.end;
  each : (k : ℕ) → slice_get l.counts k ≡ option_map (one_more_if (nat_le l.first k && nat_lt k l.channel)) (slice_get l.initial.counts k);
}
