use Rattle.std.proofs.Common.{◌≡◌, ◌+◌, ℕ, length, slice_get}
use Rattle.std.specs.Option.{option_map}
use Rattle.feed_cells.specs.Sizes.{HaveRoom, count_in}
use Rattle.feed_cells.proofs.totals.count_all.Given as goal

abbrev pub invariant-loop-net : goal.invariant-loop-net
invariant-loop-net l = record {
  room : HaveRoom (length l.rest) l.counts;
  each : (k : ℕ) → option_map (λ (n : ℕ). n + count_in l.rest k) (slice_get l.counts k)
      ≡ option_map (λ (n : ℕ). n + count_in l.fn.nets k) (slice_get l.initial.counts k);
}

abbrev pub decreases-loop-net : goal.decreases-loop-net
decreases-loop-net l = length l.rest
