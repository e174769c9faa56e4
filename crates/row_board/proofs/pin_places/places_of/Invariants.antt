use Rattle.std.proofs.Common.{◌≡◌, ◌≤◌, ◌++◌, ℕ, length, map}
use Rattle.std.specs.List.{AllByRecursion}
use Rattle.row_board.specs.NetPins.{pin_column, pin_row}
use Rattle.row_board.proofs.pin_places.places_of.Given as goal

abbrev pub invariant-loop-pin : goal.invariant-loop-pin
invariant-loop-pin l = record {
  columns : l.columns.items ++ map (pin_column l.standings) l.rest ≡ map (pin_column l.standings) l.pins;
  rows : l.rows.items ++ map (pin_row l.standings) l.rest ≡ map (pin_row l.standings) l.pins;
  far : AllByRecursion (λ (n : ℕ). n ≤ 2004294967295) l.columns.items;
  high : AllByRecursion (λ (n : ℕ). n ≤ 513) l.rows.items;
}

abbrev pub decreases-loop-pin : goal.decreases-loop-pin
decreases-loop-pin l = length l.rest
