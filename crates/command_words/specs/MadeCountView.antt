-- the number of instances of a made design as contracts see it: from 1 to the most that a design may have
use Rattle.std.specs.Prelude.{ℕ, ◌≤◌}
use Rattle.limits.specs.declared.TheConstants.{MOST_INSTANCES}
use Rattle.command_words.specs.declared.number_word.MadeCount.TheInside.{Inside}

abbrev pub count_in : Inside → ℕ
count_in a = a.instances

pub record IsCount (a : Inside) : Type 0 where
  pub some : 1 ≤ a.instances
  pub few : a.instances ≤ MOST_INSTANCES

abbrev pub from_count : ℕ → Inside
from_count n = record { instances = n }
