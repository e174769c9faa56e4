-- what rows cost
use Rattle.std.specs.Prelude.{ℕ, ◌+◌, ◌-◌, ◌*◌, ◌==◌, List, [], ◌∷◌, map, filter, fold, sum, length}
use Rattle.std.specs.List.{range_with_len}
use Rattle.std.specs.Prelude.{max, min}
use Rattle.design_model.specs.Netlist.{Netlist}
use Rattle.design_model.specs.declared.design.Pin.{Pin}
use Rattle.row_model.specs.Start.{rounded_up}
use Rattle.row_model.specs.Stands.{column_of, row_of}
use Rattle.row_board.specs.Weights.{Weighing}
use Rattle.row_model.specs.Widths.{all_columns, row_width}
use Rattle.row_model.specs.declared.rows.Seat.{Seat}

-- the greatest of numbers less the least of them, and 0 where there are none
abbrev pub spread : List ℕ → ℕ
spread [] = 0
spread (n ∷ ns) = fold max n ns - fold min n ns

-- the pins of a net, in their order
abbrev pub pins_of_net : Netlist → ℕ → List Pin
pins_of_net d net = filter (λ (p : Pin). p.net == net) d.pins

-- what a net costs: the columns between its pins, and the rows between them as the weights tell
unfoldable pub net_cost : Netlist → List (List Seat) → Weighing → ℕ → ℕ
net_cost d rows w net =
    spread (map (column_of d rows) (pins_of_net d net)) + w.row_cost * spread (map (λ (p : Pin). row_of d rows p.instance) (pins_of_net d net))

-- the difference of two numbers, without sign
abbrev pub difference : ℕ → ℕ → ℕ
difference a b = (a - b) + (b - a)

-- the width at which all rows are equally wide, rounded up
abbrev pub target_of : Netlist → ℕ → ℕ
target_of d rows = rounded_up (all_columns d) rows

-- the sum of the differences between the rows' widths and their target
abbrev pub unevenness : Netlist → List (List Seat) → ℕ
unevenness d rows = sum (map (λ (seats : List Seat). difference (row_width d seats) (target_of d (length rows))) rows)

-- what rows of a design cost: the sum of what its nets cost, and the columns by which rows miss the target as the weights tell
unfoldable pub cost_of : Netlist → List (List Seat) → Weighing → ℕ
cost_of d rows w = sum (map (net_cost d rows w) (range_with_len 1 (length d.nets))) + w.length_cost * unevenness d rows
