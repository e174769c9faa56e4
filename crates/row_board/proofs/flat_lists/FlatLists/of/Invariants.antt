use Rattle.std.proofs.Common.{◌≡◌}
use Rattle.row_board.specs.FlatLists.{first_lists}
use Rattle.row_board.proofs.flat_lists.FlatLists.of.Given as goal

abbrev pub invariant-loop-n : goal.invariant-loop-n
invariant-loop-n g l = l.made ≡ first_lists l.lists l.n
