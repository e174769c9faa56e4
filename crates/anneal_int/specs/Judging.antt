-- whether a change of the cost is taken, by the temperature and a random word
use Rattle.std.specs.Prelude.{ℕ, ◌*◌, ◌/◌, ◌%◌, ◌-◌, Bool, ◌&&◌, ◌||◌, nat_lt, nat_le}
use Rattle.anneal_int.specs.Threshold.{threshold}

-- a rise of the cost by d is taken at temperature t where its threshold, one of 64, is above the low half of a random word
unfoldable pub is_rise_taken : ℕ → ℕ → ℕ → Bool
is_rise_taken t word d = nat_lt (d * 8 / t) 64 && nat_lt (word % 65536) (threshold (d * 8 / t))

-- a change of the cost is taken where the cost is no higher, or its rise is taken
unfoldable pub is_taken : ℕ → ℕ → ℕ → ℕ → Bool
is_taken t word old new = nat_le new old || is_rise_taken t word (new - old)
