use Rattle.std.proofs.Common.{◌≡◌, ◌+◌, ◌++◌, length}
use Rattle.greedy_column.specs.Uses.{uses_from}
use Rattle.greedy_column.proofs.uses.uses_of.Given as goal

abbrev pub invariant-loop-a : goal.invariant-loop-a
invariant-loop-a l = record {
  counted : l.column + length l.tops ≡ length l.channel.top;
  matched : length l.tops ≡ length l.bottoms;
  so_far : l.uses.items ++ uses_from l.tops l.bottoms l.column ≡ uses_from l.channel.top l.channel.bottom 0;
}

abbrev pub decreases-loop-a : goal.decreases-loop-a
decreases-loop-a l = length l.tops
