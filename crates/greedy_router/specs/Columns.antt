-- the records of columns, from lists that lie together
use Rattle.std.specs.Prelude.{◌≡◌, ℕ, List, length, map}
use Rattle.std.specs.List.{zip}
use Rattle.greedy_column.specs.declared.column.Column.{Column}
use Rattle.greedy_column.specs.declared.column.Made.{Made}
use Rattle.greedy_router.specs.declared.columns.Entered.{Entered}
use Rattle.greedy_router.specs.declared.columns.Parts.{Parts}

-- the tracks that the pins of a column enter
abbrev pub entered_of : Column → Entered
entered_of done = record { top = done.top; bottom = done.bottom; straight = done.straight }

-- a column, from the tracks that its pins enter and its lists
abbrev pub column_of : Entered × (List Made × (List (ℕ × ℕ) × (List ℕ × List (ℕ × ℕ)))) → Column
column_of (entered, (made, (joins, (ended, moves)))) = record {
  made = made;
  top = entered.top;
  bottom = entered.bottom;
  straight = entered.straight;
  joins = joins;
  ended = ended;
  moves = moves;
}

abbrev pub columns_in : Parts → List Column
columns_in parts = map column_of (zip parts.entered.items (zip parts.made (zip parts.joins (zip parts.ended parts.moves))))

-- there are as many lists of each kind as columns
pub record AreAlike (parts : Parts) : Type 0 where
  pub made : length parts.made ≡ length parts.entered.items
  pub joins : length parts.joins ≡ length parts.entered.items
  pub ended : length parts.ended ≡ length parts.entered.items
  pub moves : length parts.moves ≡ length parts.entered.items
