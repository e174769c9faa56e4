use Rattle.std.proofs.Common.{◌≡◌, ◌≤◌, ◌+◌, length, map, sum}
use Rattle.row_board.specs.NetPins.{joined_by}
use Rattle.row_board.proofs.nets.joined_among.Given as goal

abbrev pub invariant-loop-pin : goal.invariant-loop-pin
invariant-loop-pin l = record {
  is : l.found + sum (map (joined_by l.nets) l.rest) ≡ sum (map (joined_by l.nets) l.pins);
  few : l.found + length l.rest ≤ length l.pins;
}

abbrev pub decreases-loop-pin : goal.decreases-loop-pin
decreases-loop-pin l = length l.rest
