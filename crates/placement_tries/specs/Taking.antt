-- the seeds of tries, and which of them is taken
use Rattle.std.specs.Prelude.{◌≡◌, ◌<◌, ℕ, zero, suc, ◌+◌, ◌%◌, ◌^◌, Bool, true, false, Option, None, Some, if◌then◌else◌, nat_lt}

-- the seed of a try: so much above the first, modulo 2 ^ 64
abbrev pub seed_at : ℕ → ℕ → ℕ
seed_at seed number = (seed + number) % 2 ^ 64

-- an estimate is less than another; one that there is, is less than none
abbrev pub is_less : Option ℕ → Option ℕ → Bool
is_less (Some a) (Some b) = nat_lt a b
is_less (Some a) None = true
is_less None other = false

-- of so many tries the first of least estimate: the last of them where its estimate is less than that of the one before it that is so, and else that one
abbrev pub first_least : (ℕ → Option ℕ) → ℕ → ℕ
first_least estimate zero = 0
first_least estimate (suc n) = if is_less (estimate n) (estimate (first_least estimate n)) then n else first_least estimate n

-- a try is the first of least estimate: none has less, and each before it has more
pub record IsFirstLeast (estimate : ℕ → Option ℕ) (tries taken : ℕ) : Type 0 where
  pub within : taken < tries
  pub least : (number : ℕ) → number < tries → is_less (estimate number) (estimate taken) ≡ false
  pub first : (number : ℕ) → number < taken → is_less (estimate taken) (estimate number) ≡ true
