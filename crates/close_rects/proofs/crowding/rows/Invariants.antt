use Rattle.std.proofs.Common.{◌≡◌, ◌++◌, ◌-◌, ◌≤◌, length, drop, take}
use Rattle.close_rects.specs.Crowds.{crowds_of}
use Rattle.close_rects.proofs.crowding.rows.Given as goal

abbrev pub invariant-loop-row : goal.invariant-loop-row
invariant-loop-row l = record {
  room : length l.pairs.items ≤ l.most;
  rest : take l.most (l.pairs.items ++ crowds_of (drop l.row l.crowd.members)) ≡ take l.most (crowds_of l.crowd.members);
}

abbrev pub decreases-loop-row : goal.decreases-loop-row
decreases-loop-row l = length l.crowd.members - l.row
