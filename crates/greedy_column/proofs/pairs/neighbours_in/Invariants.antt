use Rattle.std.proofs.Common.{◌≡◌, ◌≤◌, ◌+◌, length, drop, reverse}
use Rattle.greedy_column.specs.Joining.{neighbours_from}
use Rattle.greedy_column.specs.Desk.{IsBelow}
use Rattle.greedy_column.proofs.DeskLaws.{Notes}
use Rattle.greedy_column.proofs.pairs.neighbours_in.Given as goal

abbrev pub invariant-loop-place : goal.invariant-loop-place
invariant-loop-place l = record {
  within : l.place ≤ length l.all;
  found : reverse l.list.items ≡ neighbours_from (l.place + 1) (drop l.place l.all);
  lowest : Notes l.base l.above (l.place + 1) (drop l.place l.all);
  below : IsBelow (l.base + length l.all) l.above;
}

abbrev pub decreases-loop-place : goal.decreases-loop-place
decreases-loop-place l = l.place
