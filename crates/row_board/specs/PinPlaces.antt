-- where the pins of nets stand by a table of instances
use Rattle.std.specs.Prelude.{ℕ, ◌+◌, List, [], ◌∷◌, length, map, if◌then◌else◌}
use Rattle.std.specs.List.{range_with_len}
use Rattle.design_model.specs.Netlist.{Netlist}
use Rattle.row_board.specs.NetPins.{net_pins, pin_column, pin_row}
use Rattle.row_board.specs.Spot.{Spot}
use Rattle.row_board.specs.Spreads.{number_put}
use Rattle.row_board.specs.declared.net_pins.InstancePin.{InstancePin}

-- the columns of the pins of each net, from net 0 on, which has none, and their rows
abbrev pub columns_by : Netlist → List Spot → List (List ℕ)
columns_by d standings = map (λ (net : ℕ). map (pin_column standings) (net_pins d net)) (range_with_len 0 (length d.nets + 1))

abbrev pub rows_by : Netlist → List Spot → List (List ℕ)
rows_by d standings = map (λ (net : ℕ). map (pin_row standings) (net_pins d net)) (range_with_len 0 (length d.nets + 1))

-- the column of a pin whose instance stands so
abbrev pub instance_column : Spot → InstancePin → ℕ
instance_column s p = s.left + (if s.mirror then p.mirrored else p.upright)

-- the numbers of a net after some pins got others, each its own
abbrev pub puts : (InstancePin → ℕ) → List InstancePin → ℕ → List ℕ → List ℕ
puts number [] net numbers = numbers
puts number (p ∷ ps) net numbers = puts number ps net (number_put p.net p.place (number p) net numbers)
