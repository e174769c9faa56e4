-- which net crosses which row by what, and where a feed stands
use Rattle.std.specs.Prelude.{◌==◌, ℕ, ◌+◌, ◌/◌, List, [], ◌∷◌, map, Bool, true, false, ◌&&◌, not, if◌then◌else◌, Option, None, Some, is_some, count_by, nat_lt}
use Rattle.std.specs.List.{find}
use Rattle.design_model.specs.Netlist.{Netlist}
use Rattle.design_model.specs.declared.design.Pin.{Pin}
use Rattle.row_model.specs.Stands.{row_of, column_of}
use Rattle.row_model.specs.Widths.{columns_of}
use Rattle.row_model.specs.declared.rows.Seat.{Seat}
use Rattle.feed_cells.specs.Crossings.{has_edge, pins_of, greatest, least, crossing_of, is_across}

-- whether a pin is of a net, stands in a row and passes it: has positions on both edges of its cell
abbrev pub passes : Netlist → List (List Seat) → ℕ → ℕ → Pin → Bool
passes d rows net row p = p.net == net && (row_of d rows p.instance == row && (has_edge d false p && has_edge d true p))

-- the through pin of a net in a row that the net crosses: the first that passes the row, if one does
abbrev pub through_pin : Netlist → List (List Seat) → ℕ → ℕ → Option Pin
through_pin d rows net row = if is_across (crossing_of d rows net) row then find (passes d rows net row) d.pins else None

-- whether two pins are one: no two pins have one terminal of one instance
abbrev pub is_pin : Pin → Option Pin → Bool
is_pin p None = false
is_pin p (Some q) = p.instance == q.instance && p.terminal == q.terminal

-- whether a pin's net crosses the pin's row by this pin
abbrev pub is_through_pin : Netlist → List (List Seat) → Pin → Bool
is_through_pin d rows p = is_pin p (through_pin d rows p.net (row_of d rows p.instance))

-- whether a net crosses a row by a feed: it has no through pin there
abbrev pub is_fed : Netlist → List (List Seat) → ℕ → ℕ → Bool
is_fed d rows row net = is_across (crossing_of d rows net) row && not (is_some (through_pin d rows net row))

-- the middle of the columns of pins
abbrev pub middle_of_pins : Netlist → List (List Seat) → List Pin → ℕ
middle_of_pins d rows [] = 0
middle_of_pins d rows (p ∷ ps) = (least (column_of d rows p) (map (column_of d rows) ps) + greatest (column_of d rows p) (map (column_of d rows) ps)) / 2

-- the middle of a net's pins, in columns without feeds
unfoldable pub middle_of : Netlist → List (List Seat) → ℕ → ℕ
middle_of d rows net = middle_of_pins d rows (pins_of d net)

-- the first columns of seats side by side from a column on
abbrev pub lefts_of : Netlist → ℕ → List Seat → List ℕ
lefts_of d left [] = []
lefts_of d left (s ∷ seats) = left ∷ lefts_of d (left + columns_of d s.instance) seats

-- before which of the seats a net's feed stands: the first that does not begin left of the net's middle, or behind the last
abbrev pub feed_place : Netlist → List (List Seat) → List Seat → ℕ → ℕ
feed_place d rows seats net = count_by (λ (left : ℕ). nat_lt left (middle_of d rows net)) (lefts_of d 0 seats)
