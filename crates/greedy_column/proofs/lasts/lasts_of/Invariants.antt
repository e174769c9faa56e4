use Rattle.std.proofs.Common.{◌≡◌, ◌&&◌, leb, ℕ, length, get_or}
use Rattle.greedy_column.specs.Entering.{is_ending}
use Rattle.greedy_column.specs.Uses.{AreAtEdges, next_after}
use Rattle.greedy_column.proofs.lasts.lasts_of.Given as goal

abbrev pub invariant-loop-used : goal.invariant-loop-used
invariant-loop-used l = record {
  edges : AreAtEdges l.rest;
  so_far : (column net : ℕ) → (leb (get_or l.lasts.items net 0) column && is_ending (next_after l.rest column net)) ≡ is_ending (next_after l.uses column net);
}

abbrev pub decreases-loop-used : goal.decreases-loop-used
decreases-loop-used l = length l.rest
