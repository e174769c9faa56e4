-- which swap or mirroring two random words stand for, and the three words of each change of a seed
use Rattle.std.specs.Prelude.{ℕ, ◌+◌, ◌*◌, ◌/◌, ◌%◌, ◌<◌, ◌==◌, if◌then◌else◌}
use Rattle.anneal_int.specs.Words.{word}
use Rattle.anneal_int.specs.declared.draws.Change.{Change}
use Rattle.anneal_int.specs.declared.draws.Change.TheVariants.{Mirror, Swap}

-- the change of a row placement of n instances that two words stand for: the first gives a cell; the second mirrors it where its low three bits are 0, and else gives by the
-- other 29 the instance with which the cell changes places
unfoldable pub change_of : ℕ → ℕ → ℕ → Change
change_of n first second = if second % 8 == 0 then Mirror (first % n) else Swap (first % n) (second / 8 % n)

-- change m of a seed, from 0 on, which has three words: the third is the one by which it is judged
unfoldable pub change_number : ℕ → ℕ → ℕ → Change
change_number seed n m = change_of n (word seed (3 * m)) (word seed (3 * m + 1))

abbrev pub chance_number : ℕ → ℕ → ℕ
chance_number seed m = word seed (3 * m + 2)

-- a change of one or two of n instances
abbrev pub IsAmong : ℕ → Change → Type 0
IsAmong n (Mirror a) = a < n
IsAmong n (Swap a b) = (a < n) × (b < n)
