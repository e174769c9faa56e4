-- a number of rows as contracts see it: from 1 to the most that a layout may have
use Rattle.std.specs.Prelude.{ℕ, ◌≤◌}
use Rattle.limits.specs.declared.TheConstants.{MOST_ROWS}
use Rattle.command_words.specs.declared.number_word.RowCount.TheInside.{Inside}

abbrev pub count_in : Inside → ℕ
count_in a = a.rows

pub record IsCount (a : Inside) : Type 0 where
  pub some : 1 ≤ a.rows
  pub few : a.rows ≤ MOST_ROWS

abbrev pub from_count : ℕ → Inside
from_count n = record { rows = n }
