-- rows whose seats are mirrored
use Rattle.std.specs.Prelude.{List, map, not}
use Rattle.row_model.specs.declared.rows.Seat.{Seat}

-- a seat turned over: mirrored where it was upright, and upright where it was mirrored
abbrev pub turned : Seat → Seat
turned s = record { instance = s.instance; mirror = not s.mirror }

-- rows with each seat turned over
abbrev pub turned_rows : List (List Seat) → List (List Seat)
turned_rows rows = map (map turned) rows
