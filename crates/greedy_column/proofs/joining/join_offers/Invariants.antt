use Rattle.std.proofs.Common.{◌≡◌, ◌<◌, ◌++◌, Contains, length, map}
use Rattle.greedy_column.specs.Uses.{next_after}
use Rattle.greedy_column.specs.declared.span.Span.{Span}
use Rattle.greedy_column.specs.Offers.{join_offer}
use Rattle.greedy_column.proofs.joining.join_offers.Given as goal

abbrev pub invariant-loop-pair : goal.invariant-loop-pair
invariant-loop-pair l = record {
  above : (pair : Span) → Contains l.rest pair → 0 < pair.low;
  so_far : l.offers.items ++ map (join_offer (next_after l.ahead.uses.items l.column)) l.rest
      ≡ map (join_offer (next_after l.ahead.uses.items l.column)) l.joins;
}

abbrev pub decreases-loop-pair : goal.decreases-loop-pair
decreases-loop-pair l = length l.rest
