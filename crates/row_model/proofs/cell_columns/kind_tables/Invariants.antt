use Rattle.std.proofs.Common.{◌≡◌, ◌++◌, length, map}
use Rattle.row_model.specs.PinColumns.{kind_columns}
use Rattle.row_model.proofs.cell_columns.kind_tables.Given as goal

abbrev pub invariant-loop-kind : goal.invariant-loop-kind
invariant-loop-kind l = l.tables.items ++ map kind_columns l.rest ≡ map kind_columns l.kinds

abbrev pub decreases-loop-kind : goal.decreases-loop-kind
decreases-loop-kind l = length l.rest
