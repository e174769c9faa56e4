use Rattle.std.proofs.Common.{◌≡◌, ℕ, ◌+◌, refl, add-one}
use Rattle.rand_pcg.specs.Pcg.{pcg32}
use Rattle.layout_report.specs.Words.{after_words}

-- the generator behind one word more
pub after_words_more : (seed k : ℕ) → after_words seed (k + 1) ≡ (pcg32 (after_words seed k)).1
unfolding after_words
after_words_more seed k = rw add-one refl
