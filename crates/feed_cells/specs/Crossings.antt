-- the channels that pins touch and that nets cross
use Rattle.std.specs.Prelude.{◌==◌, ℕ, ◌+◌, ◌-◌, List, [], ◌∷◌, map, fold, filter, length, min, max, Bool, true, false, ◌&&◌, if◌then◌else◌, nat_le, nat_lt, is_some}
use Rattle.std.specs.List.{range_with_len}
use Rattle.design_model.specs.Netlist.{Netlist}
use Rattle.design_model.specs.declared.design.Pin.{Pin}
use Rattle.row_model.specs.Stands.{row_of, edge_column}
use Rattle.row_model.specs.declared.rows.Seat.{Seat}
use Rattle.feed_cells.specs.declared.crossing.Crossing.{Crossing}
use Rattle.feed_cells.specs.declared.crossing.Crossing.TheVariants.{Alone, One, Many}

-- whether a pin has a position on an edge of its cell, the upper where `top` holds
abbrev pub has_edge : Netlist → Bool → Pin → Bool
has_edge d top p = is_some (edge_column d top p)

-- the lowest and the highest channel that a pin touches: channel r lies below row r
abbrev pub lowest : Netlist → List (List Seat) → Pin → ℕ
lowest d rows p = if has_edge d false p then row_of d rows p.instance else row_of d rows p.instance + 1

abbrev pub highest : Netlist → List (List Seat) → Pin → ℕ
highest d rows p = if has_edge d true p then row_of d rows p.instance + 1 else row_of d rows p.instance

-- the pins of a net, in order
abbrev pub pins_of : Netlist → ℕ → List Pin
pins_of d net = filter (λ (p : Pin). p.net == net) d.pins

-- the numbers of a design's nets
abbrev pub all_nets : Netlist → List ℕ
all_nets d = range_with_len 1 (length d.nets)

-- the greatest and the least of numbers, of which the first stands apart
abbrev pub greatest : ℕ → List ℕ → ℕ
greatest first ns = fold max first ns

abbrev pub least : ℕ → List ℕ → ℕ
least first ns = fold min first ns

-- from the greatest lowest channel of a net's pins and their least highest one: a channel that all pins touch, or the channels between
abbrev pub crossing_between : ℕ → ℕ → Crossing
crossing_between b t = if nat_le b t then One b else Many t b

abbrev pub crossing_of_pins : Netlist → List (List Seat) → List Pin → Crossing
crossing_of_pins d rows [] = Alone
crossing_of_pins d rows (p ∷ []) = Alone
crossing_of_pins d rows (p ∷ q ∷ ps) =
    crossing_between (greatest (lowest d rows p) (map (lowest d rows) (q ∷ ps))) (least (highest d rows p) (map (highest d rows) (q ∷ ps)))

-- which channels a net stands in
unfoldable pub crossing_of : Netlist → List (List Seat) → ℕ → Crossing
crossing_of d rows net = crossing_of_pins d rows (pins_of d net)

-- whether a net stands in a channel
abbrev pub is_in : Crossing → ℕ → Bool
is_in Alone channel = false
is_in (One b) channel = channel == b
is_in (Many lo hi) channel = nat_le lo channel && nat_le channel hi

-- whether a net crosses a row
abbrev pub is_across : Crossing → ℕ → Bool
is_across Alone row = false
is_across (One b) row = false
is_across (Many lo hi) row = nat_le lo row && nat_lt row hi

-- the rows that a net crosses, from the lowest up
abbrev pub crossed_rows : Crossing → List ℕ
crossed_rows Alone = []
crossed_rows (One b) = []
crossed_rows (Many lo hi) = range_with_len lo (hi - lo)
