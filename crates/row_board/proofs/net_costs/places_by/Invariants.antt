use Rattle.std.proofs.Common.{◌≡◌, ℕ, map}
use Rattle.std.specs.List.{range_with_len}
use Rattle.row_board.specs.NetPins.{net_pins, pin_column, pin_row}
use Rattle.row_board.proofs.net_costs.places_by.Given as goal

abbrev pub invariant-loop-net : goal.invariant-loop-net
invariant-loop-net l = record {
  columns : l.columns ≡ record { most = 2004294967295; lists = map (λ (net : ℕ). map (pin_column l.standings) (net_pins l.nets net)) (range_with_len 0 l.net) };
  rows : l.rows ≡ record { most = 513; lists = map (λ (net : ℕ). map (pin_row l.standings) (net_pins l.nets net)) (range_with_len 0 l.net) };
}
