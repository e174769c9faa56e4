use Rattle.std.proofs.Common.{◌≡◌, ℕ, ◌+◌, ◌*◌, refl, add-one, ap, ◌∙◌, arith}
use Rattle.rand_pcg.specs.Lcg.{Lcg}
use Rattle.rand_pcg.specs.Pcg.{pcg32}
use Rattle.anneal_int.specs.Words.{after_words, word}

pub after_words-more : (seed k : ℕ) → after_words seed (k + 1) ≡ (pcg32 (after_words seed k)).1
unfolding after_words
after_words-more seed k = rw add-one refl

-- the generator behind the words of one more change
pub after_words-change : (seed m : ℕ) → after_words seed (3 * (m + 1)) ≡ (pcg32 (pcg32 (pcg32 (after_words seed (3 * m))).1).1).1
after_words-change seed m =
    let e : 3 * (m + 1) ≡ 3 * m + 1 + 1 + 1 = omega arith in
    ap (after_words seed) e ∙ after_words-more seed (3 * m + 1 + 1) ∙ ap (λ (g : Lcg). (pcg32 g).1) (after_words-more seed (3 * m + 1) ∙ ap (λ (g : Lcg). (pcg32 g).1) (after_words-more seed (3 * m)))

pub word-second : (seed k : ℕ) → word seed (k + 1) ≡ (pcg32 (pcg32 (after_words seed k)).1).0
unfolding word
word-second seed k = ap (λ (g : Lcg). (pcg32 g).0) (after_words-more seed k)

pub word-third : (seed k : ℕ) → word seed (k + 2) ≡ (pcg32 (pcg32 (pcg32 (after_words seed k)).1).1).0
unfolding word
word-third seed k =
    let e : k + 2 ≡ k + 1 + 1 = omega arith in
    ap (λ (j : ℕ). (pcg32 (after_words seed j)).0) e ∙ ap (λ (g : Lcg). (pcg32 g).0) (after_words-more seed (k + 1) ∙ ap (λ (g : Lcg). (pcg32 g).1) (after_words-more seed k))

pub ruleset words = (after_words-change, word-second, word-third)
