use Rattle.std.proofs.Common.{◌≡◌, ◌≤◌, ◌+◌, ◌++◌, ◌∷◌, length, map, vec_capacity, vec_len}
use Rattle.greedy_column.specs.Offers.{offer}
use Rattle.greedy_column.proofs.question.filled_from.Given as goal

abbrev pub invariant-loop-option : goal.invariant-loop-option
invariant-loop-option l = record {
  room : vec_len l.offers + length l.rest ≤ vec_capacity l.offers;
  so_far : l.offers.items ++ map (offer l.question l.others) l.rest ≡ map (offer l.question l.others) (l.line ∷ l.options);
}

abbrev pub decreases-loop-option : goal.decreases-loop-option
decreases-loop-option l = length l.rest
