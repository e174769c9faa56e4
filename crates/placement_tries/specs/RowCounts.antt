-- how many rows each try has
use Rattle.std.specs.Prelude.{ℕ, ◌+◌, ◌*◌, ◌/◌, ◌%◌, ◌==◌, List, [], ◌∷◌, ◌++◌, map, fold, length, min, max, if◌then◌else◌, slice_index}
use Rattle.std.specs.List.{list_any}
use Rattle.limits.specs.declared.TheConstants.{MOST_ROWS}

-- so many eighths of a number of rows, rounded to the nearest, halves up, at least 1 and at most 512
abbrev pub part_of : ℕ → ℕ → ℕ
part_of rows eighths = min (max ((rows * eighths + 4) / 8) 1) MOST_ROWS

-- numbers, and one more behind them, unless it stands among them
abbrev pub with_new : List ℕ → ℕ → List ℕ
with_new list n = if list_any (λ m. m == n) list then list else list ++ n ∷ []

-- the numbers of rows that are tried, where the first makes the layout about square: that, and 7/8, 3/4, 9/8, 5/8, 1/2 and 3/8 of it, each number once
unfoldable pub row_list : ℕ → List ℕ
row_list square = fold with_new (square ∷ []) (map (part_of square) (7 ∷ 6 ∷ 9 ∷ 5 ∷ 4 ∷ 3 ∷ []))

-- the number of rows of a try: the list begins anew after its end
unfoldable pub rows_at : ℕ → ℕ → ℕ
rows_at square number = slice_index (row_list square) (number % length (row_list square))
