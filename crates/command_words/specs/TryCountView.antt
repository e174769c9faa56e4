-- a number of tries as contracts see it: from 1 to the most that a command may ask for
use Rattle.std.specs.Prelude.{ℕ, ◌≤◌}
use Rattle.command_words.specs.declared.number_word.TheConstants.{MOST_TRIES}
use Rattle.command_words.specs.declared.number_word.TryCount.TheInside.{Inside}

abbrev pub count_in : Inside → ℕ
count_in a = a.tries

pub record IsCount (a : Inside) : Type 0 where
  pub some : 1 ≤ a.tries
  pub few : a.tries ≤ MOST_TRIES

abbrev pub from_count : ℕ → Inside
from_count n = record { tries = n }
