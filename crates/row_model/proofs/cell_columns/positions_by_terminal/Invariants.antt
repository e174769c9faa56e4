use Rattle.std.proofs.Common.{◌≡◌, ◌<◌, ◌++◌, ℕ, List, Some, length, slice_get}
use Rattle.std.specs.Option.{option_map}
use Rattle.design_model.specs.declared.design.Position.{Position}
use Rattle.row_model.specs.PinColumns.{of_terminal}
use Rattle.row_model.proofs.cell_columns.positions_by_terminal.Given as goal

abbrev pub invariant-loop-position : goal.invariant-loop-position
invariant-loop-position l = (t : ℕ) → t < l.count → option_map (λ (xs : List Position). xs ++ of_terminal t l.rest) (slice_get l.lists t) ≡ Some (of_terminal t l.fn.positions)

abbrev pub decreases-loop-position : goal.decreases-loop-position
decreases-loop-position l = length l.rest
