use Rattle.std.proofs.Common.{◌+◌, take}
use Rattle.row_board.specs.Extreme.{IsExtreme}
use Rattle.row_board.proofs.extreme.Extreme.of.Given as goal

abbrev pub invariant-loop-number : goal.invariant-loop-number
invariant-loop-number l = IsExtreme l.side (take (l.number-index + 1) l.numbers) l.extreme
