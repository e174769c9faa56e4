use Rattle.std.proofs.Common.{◌≡◌, length, map}
use Rattle.std.specs.List.{range_with_len}
use Rattle.row_model.specs.Start.{counted_row}
use Rattle.row_model.proofs.starting.counted_rows.Given as goal

abbrev pub invariant-loop-row : goal.invariant-loop-row
invariant-loop-row l = l.made.items ≡ map (counted_row (length l.design.instances) l.rows) (range_with_len 0 l.row)
