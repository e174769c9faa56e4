-- rows after a change
use Rattle.std.specs.Prelude.{ℕ, ◌==◌, List, map, not, if◌then◌else◌, Option, None, Some}
use Rattle.std.specs.List.{find, flat_map}
use Rattle.row_model.specs.declared.rows.Seat.{Seat}

-- the seat of an instance, where it has one
abbrev pub seat_of : List (List Seat) → ℕ → Option Seat
seat_of rows instance = find (λ (s : Seat). s.instance == instance) (flat_map (λ (seats : List Seat). seats) rows)

-- what stands in a seat after the instances of two seats exchange their places, each with its mirror
abbrev pub exchanged : Seat → Seat → Seat → Seat
exchanged a b s = if s.instance == a.instance then b else if s.instance == b.instance then a else s

-- rows after two seats exchange their places, if both are there
abbrev pub with_exchanged : Option Seat → Option Seat → List (List Seat) → List (List Seat)
with_exchanged None b rows = rows
with_exchanged (Some a) None rows = rows
with_exchanged (Some a) (Some b) rows = map (map (exchanged a b)) rows

-- rows after two instances exchange their places, each with its mirror; the same rows where one of both stands in none
unfoldable pub swapped : ℕ → ℕ → List (List Seat) → List (List Seat)
swapped a b rows = with_exchanged (seat_of rows a) (seat_of rows b) rows

-- a seat turned over, if it is that of an instance
abbrev pub turned : ℕ → Seat → Seat
turned a s = if s.instance == a then record { instance = s.instance; mirror = not s.mirror } else s

-- rows after an instance is turned over
unfoldable pub mirrored : ℕ → List (List Seat) → List (List Seat)
mirrored a rows = map (map (turned a)) rows
