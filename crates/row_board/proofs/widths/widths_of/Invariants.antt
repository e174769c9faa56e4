use Rattle.std.proofs.Common.{◌≡◌, map}
use Rattle.std.specs.List.{range_with_len}
use Rattle.row_model.specs.Widths.{columns_of}
use Rattle.row_board.proofs.widths.widths_of.Given as goal

abbrev pub invariant-loop-instance : goal.invariant-loop-instance
invariant-loop-instance l = l.widths.items ≡ map (columns_of l.design) (range_with_len 0 l.instance)
