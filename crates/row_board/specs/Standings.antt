-- tables of where instances stand: made from rows, kept outside of some seats, and after two instances trade places
use Rattle.std.specs.Prelude.{◌≡◌, ◌≢◌, ℕ, ◌<◌, ◌≤◌, ◌==◌, List, take, slice_get, slice_set, if◌then◌else◌, false, Option, None, Some}
use Rattle.design_model.specs.Netlist.{Netlist}
use Rattle.row_model.specs.Widths.{row_width}
use Rattle.row_model.specs.declared.rows.Seat.{Seat}
use Rattle.row_board.specs.Spot.{Spot}

-- where the instance of a seat stands that is at a place of a row
abbrev pub standing_at : Netlist → ℕ → ℕ → List Seat → Seat → Spot
standing_at d row place seats s = record { row = row; mirror = s.mirror; place = place; left = row_width d (take place seats) }

-- a table has where the instance of a seat stands, if there is a seat at this place of this row
abbrev pub IsEntered : Netlist → List (List Seat) → List Spot → ℕ → ℕ → Type 0
IsEntered d rows standings row place = (seats : List Seat) (s : Seat) → slice_get rows row ≡ Some seats → slice_get seats place ≡ Some s
    → slice_get standings s.instance ≡ Some (standing_at d row place seats s)

-- a table has where each instance of rows stands
pub record AreEntered (d : Netlist) (rows : List (List Seat)) (standings : List Spot) : Type 0 where
  pub each : (row place : ℕ) → IsEntered d rows standings row place

-- the instances of seats are below a number, and no two seats have the same
pub record AreApart (count : ℕ) (seats : List Seat) : Type 0 where
  pub within : (k : ℕ) (s : Seat) → slice_get seats k ≡ Some s → s.instance < count
  pub apart : (j k : ℕ) (s t : Seat) → slice_get seats j ≡ Some s → slice_get seats k ≡ Some t → s.instance ≡ t.instance → j ≡ k

-- a table has where the instances of the seats of a row from one place up to another stand
pub record HasEntered (d : Netlist) (row from to : ℕ) (seats : List Seat) (standings : List Spot) : Type 0 where
  pub each : (k : ℕ) (s : Seat) → from ≤ k → k < to → slice_get seats k ≡ Some s → slice_get standings s.instance ≡ Some (standing_at d row k seats s)

-- two tables have the same for each instance but those of the seats from one place up to another
pub record KeepsOthers (from to : ℕ) (seats : List Seat) (old new : List Spot) : Type 0 where
  pub each : (i : ℕ) → ((k : ℕ) (s : Seat) → from ≤ k → k < to → slice_get seats k ≡ Some s → s.instance ≢ i) → slice_get new i ≡ slice_get old i

-- the row with this number after a seat is put at a place of some row
abbrev pub put_in : ℕ → ℕ → Seat → ℕ → List Seat → List Seat
put_in row place seat number seats = if number == row then slice_set seats place seat else seats

abbrev pub lower_left : Spot
lower_left = record { row = 0; mirror = false; place = 0; left = 0 }

-- the stand of an instance in a table, or the lower left where it has none
abbrev pub standing_in : Option Spot → Spot
standing_in None = lower_left
standing_in (Some standing) = standing

abbrev pub standing_of : List Spot → ℕ → Spot
standing_of standings instance = standing_in (slice_get standings instance)

-- where an instance stands that takes the place of another, with its own mirror
abbrev pub in_place_of : Spot → Spot → Spot
in_place_of other one = record { row = other.row; mirror = one.mirror; place = other.place; left = other.left }

-- a table after two instances take each other's place in it, where no other is shifted
abbrev pub traded : ℕ → ℕ → List Spot → List Spot
traded a b standings =
    slice_set (slice_set standings a (in_place_of (standing_of standings b) (standing_of standings a))) b (in_place_of (standing_of standings a) (standing_of standings b))
