use Rattle.std.proofs.Common.{◌≡◌, ◌≤◌, ◌+◌, ◌++◌, length, map, vec_capacity, vec_len}
use Rattle.greedy_column.specs.Offers.{offer}
use Rattle.greedy_column.proofs.question.filled_offers.Given as goal

abbrev pub invariant-loop-line : goal.invariant-loop-line
invariant-loop-line l = record {
  room : vec_len l.offers + length l.rest ≤ vec_capacity l.offers;
  so_far : l.offers.items ++ map (offer l.question l.others) l.rest ≡ map (offer l.question l.others) l.lines;
}

abbrev pub decreases-loop-line : goal.decreases-loop-line
decreases-loop-line l = length l.rest
