-- the random words of a seed, and the design that is made from it
use Rattle.std.specs.Prelude.{ℕ, zero, suc}
use Rattle.rand_pcg.specs.Lcg.{Lcg, increment_of, started}
use Rattle.rand_pcg.specs.Pcg.{multiplier_64, pcg32}

-- the generator of a seed: PCG's 32-bit one, with stream 55
abbrev pub generator_of : ℕ → Lcg
generator_of seed = started 64 multiplier_64 seed (increment_of 64 55)

-- the generator behind so many words
unfoldable pub after_words : ℕ → ℕ → Lcg
after_words seed zero = generator_of seed
after_words seed (suc k) = (pcg32 (after_words seed k)).1

-- word k of a seed, from 0 on
unfoldable pub word : ℕ → ℕ → ℕ
word seed k = (pcg32 (after_words seed k)).0
