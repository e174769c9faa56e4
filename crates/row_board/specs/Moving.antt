-- what a swap moves
use Rattle.std.specs.Prelude.{◌≡◌, ◌==◌, ℕ, ◌+◌, ◌-◌, ◌<◌, ◌≤◌, List, slice_get, length, if◌then◌else◌, nat_le, Bool, [], Option, None, Some}
use Rattle.std.specs.Prelude.{max}
use Rattle.design_model.specs.Netlist.{Netlist}
use Rattle.std.specs.Option.{option_map}
use Rattle.row_board.specs.Standings.{put_in, standing_of, IsEntered}
use Rattle.row_board.specs.declared.moving.MovedSeats.{MovedSeats}
use Rattle.row_model.specs.Widths.{columns_of}
use Rattle.row_model.specs.declared.rows.Seat.{Seat}
use Rattle.row_board.specs.Spot.{Spot}

-- a seat is at a place of a row
pub record IsAt (rows : List (List Seat)) (row place : ℕ) (seat : Seat) : Type 0 where
  pub seats : List Seat
  pub in_row : slice_get rows row ≡ Some seats
  pub at : slice_get seats place ≡ Some seat

-- up to which place the seats of a row change where two seats exchange places: one of them stands in the row at `place` and the other at `other` of the same row
-- or of another one. Cells of one width move no others
abbrev pub moved_end : Bool → Bool → ℕ → ℕ → ℕ → ℕ
moved_end even same place other count = if even then place + 1 else if same then max place other + 1 else count

-- the seats of a row, if there is this row
abbrev pub row_there : Option (List Seat) → List Seat
row_there None = []
row_there (Some seats) = seats

abbrev pub row_length : Option (List Seat) → ℕ
row_length row = length (row_there row)

-- a place is in a reach
abbrev pub IsIn : MovedSeats → ℕ → ℕ → Type 0
IsIn reach row place = (row ≡ reach.row) × (reach.from ≤ place) × (place < reach.to)

-- a reach is of seats of a row
pub record IsReach (rows : List (List Seat)) (reach : MovedSeats) : Type 0 where
  pub row : reach.row < length rows
  pub ordered : reach.from ≤ reach.to
  pub within : reach.to ≤ row_length (slice_get rows reach.row)

-- the first column behind a seat, by where a table tells that its instance stands, or 0 where there is no seat
abbrev pub column_behind : Netlist → List Spot → Option Seat → ℕ
column_behind d standings None = 0
column_behind d standings (Some s) = (standing_of standings s.instance).left + columns_of d s.instance

-- the first column at a place of a row, by where the seat before it stands
abbrev pub left_of : Netlist → List Spot → List Seat → ℕ → ℕ
left_of d standings seats place = if place == 0 then 0 else column_behind d standings (slice_get seats (place - 1))

-- two reaches, the one that begins at the lower place first
abbrev pub in_order : MovedSeats → MovedSeats → MovedSeats × MovedSeats
in_order one other = if nat_le one.from other.from then (one, other) else (other, one)

-- each seat that is in none of two reaches, the first of which begins no later than the second, is where a table tells
pub record AreUnmoved (d : Netlist) (rows : List (List Seat)) (standings : List Spot) (first second : MovedSeats) : Type 0 where
  pub is_first : IsReach rows first
  pub is_second : IsReach rows second
  pub ordered : first.from ≤ second.from
  pub each : (row place : ℕ) → (IsIn first row place → ⊥) → (IsIn second row place → ⊥) → IsEntered d rows standings row place

-- two seats are put into rows, each at its place
pub record ArePut (row place : ℕ) (seat : Seat) (row' place' : ℕ) (seat' : Seat) (old new : List (List Seat)) : Type 0 where
  pub each : (r : ℕ) → slice_get new r ≡ option_map (λ (seats : List Seat). put_in row' place' seat' r (put_in row place seat r seats)) (slice_get old r)

-- two instances exchange their places in rows, where a table tells where they stood
abbrev pub AreExchanged : List Spot → ℕ → ℕ → List (List Seat) → List (List Seat) → Type 0
AreExchanged standings a b old new =
    ArePut (standing_of standings a).row (standing_of standings a).place (record { instance = b; mirror = (standing_of standings b).mirror })
    (standing_of standings b).row (standing_of standings b).place (record { instance = a; mirror = (standing_of standings a).mirror }) old new
