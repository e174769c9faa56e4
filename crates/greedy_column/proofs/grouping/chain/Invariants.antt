use Rattle.std.proofs.Common.{◌≡◌, ◌≤◌, ◌+◌, ◌++◌, length}
use Rattle.greedy_column.specs.Ending.{chain_from}
use Rattle.greedy_column.proofs.grouping.chain.Given as goal

abbrev pub invariant-loop-pair : goal.invariant-loop-pair
invariant-loop-pair l = record {
  so_far : l.group.items ++ chain_from l.rest l.line ≡ chain_from l.joined l.first;
  few : length l.group.items + length l.rest ≤ length l.joined;
}

abbrev pub decreases-loop-pair : goal.decreases-loop-pair
decreases-loop-pair l = length l.rest
