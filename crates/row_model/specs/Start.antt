-- the rows that a design begins with, and how many
use Rattle.std.specs.Prelude.{ℕ, zero, suc, ◌+◌, ◌*◌, ◌-◌, ◌/◌, List, [], ◌∷◌, map, length, false, if◌then◌else◌, nat_le}
use Rattle.std.specs.List.{range_with_len}
use Rattle.tech_rules.specs.Rules.{RuleValues}
use Rattle.tech_rules.specs.declared.sections.StartBy.{StartBy}
use Rattle.tech_rules.specs.declared.sections.StartBy.TheVariants.{Width, Count}
use Rattle.design_model.specs.Netlist.{Netlist}
use Rattle.row_model.specs.Widths.{columns_of, all_columns}
use Rattle.row_model.specs.declared.rows.Seat.{Seat}

-- the least number from k on, among so many further ones, of rows of this height whose square has this area; or the last of these numbers
abbrev pub least_rows : ℕ → ℕ → ℕ → ℕ → ℕ
least_rows area height zero k = k
least_rows area height (suc more) k = if nat_le area (k * k * height) then k else least_rows area height more (k + 1)

-- as many rows as make the layout about square, 1 to 512
unfoldable pub default_rows : RuleValues → Netlist → ℕ
default_rows r d = least_rows (all_columns d * r.grid.column) d.height 511 1

-- an instance in its seat, upright
abbrev pub upright : ℕ → Seat
upright instance = record { instance = instance; mirror = false }

-- so many instances from one on in their seats, upright
abbrev pub seats_from : ℕ → ℕ → List Seat
seats_from first n = map upright (range_with_len first n)

-- how many of n instances from one on a row takes, in their order, until it is at least as wide as is wanted
abbrev pub taken : Netlist → ℕ → ℕ → ℕ → ℕ
taken d zero first n = 0
taken d (suc wanted) first zero = 0
taken d (suc wanted) first (suc n) = suc (taken d (suc wanted - columns_of d first) (first + 1) n)

-- n instances from one on in so many rows: each row takes instances until it is at least as wide as the target, and the last takes the rest
abbrev pub rows_from : Netlist → ℕ → ℕ → ℕ → ℕ → List (List Seat)
rows_from d target zero first n = []
rows_from d target (suc zero) first n = seats_from first n ∷ []
rows_from d target (suc (suc more)) first n =
    seats_from first (taken d target first n) ∷ rows_from d target (suc more) (first + taken d target first n) (n - taken d target first n)

-- a number divided by another, rounded up
abbrev pub rounded_up : ℕ → ℕ → ℕ
rounded_up a b = (a + (b - 1)) / b

-- n instances in so many rows: row r takes those from r parts of the whole on, up to r + 1 parts
abbrev pub counted_row : ℕ → ℕ → ℕ → List Seat
counted_row n rows r = seats_from (n * r / rows) (n * (r + 1) / rows - n * r / rows)

abbrev pub counted_rows : ℕ → ℕ → List (List Seat)
counted_rows n rows = map (counted_row n rows) (range_with_len 0 rows)

-- the rows that a design begins with: filled up to the same width, or with the same number of instances
unfoldable pub start_rows : StartBy → Netlist → ℕ → List (List Seat)
start_rows Width d rows = rows_from d (rounded_up (all_columns d) rows) rows 0 (length d.instances)
start_rows Count d rows = counted_rows (length d.instances) rows
