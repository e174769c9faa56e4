-- the widths of rows and their target as contracts see them, and how far each row misses it
use Rattle.std.specs.Prelude.{◌≡◌, ℕ, ◌≤◌, List, length, map}
use Rattle.row_board.specs.Cost.{difference}
use Rattle.row_board.specs.RowLengths.{Lengths}
use Rattle.row_board.specs.declared.row_lengths.RowLengths.TheInside.{Inside}
use Rattle.limits.specs.declared.TheConstants.{MOST_PLACED_ROWS}

abbrev pub lengths_in : Inside → Lengths
lengths_in a = record { widths = a.widths.items; target = a.target }

-- how far each row is from the target
abbrev pub misses_of : Lengths → List ℕ
misses_of l = map (λ (width : ℕ). difference width l.target) l.widths

pub record AreLengths (a : Inside) : Type 0 where
  pub misses : a.misses ≡ misses_of (lengths_in a)
  pub low : a.target ≤ 2000000000000
  pub few : length a.widths.items ≤ MOST_PLACED_ROWS
