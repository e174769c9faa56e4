use Rattle.std.proofs.Common.{◌≡◌, map}
use Rattle.std.specs.List.{range_with_len}
use Rattle.row_model.specs.PinColumns.{terminal_columns}
use Rattle.row_model.proofs.cell_columns.kind_columns.Given as goal

abbrev pub invariant-loop-n : goal.invariant-loop-n
invariant-loop-n l = l.table.items ≡ map (terminal_columns l.kind.positions) (range_with_len 0 l.n)
