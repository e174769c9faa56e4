use Rattle.blif_reader.specs.declared.fault.BlifKind.TheVariants as faults
use Rattle.std.proofs.Common.{◌≡◌, ℕ, true, false, not, List, [], ◌∷◌, length, take, drop, slice_index, refl, sym, ◌∙◌, ◌==◌, ◌≢◌, inl, inr, Ok, Err, arith, eqb-true, ne_eqb}
use Rattle.std.specs.List.{prefix_len}
use Rattle.std.proofs.lemmas.Bool.{cases_Bool, and_parts, not-true}
use Rattle.std.proofs.Math.Bool.{true≢false}
use Rattle.blif_reader.specs.Seen.{begins_blank}
use Rattle.blif_reader.specs.Tokens.{Spelled, Token, word, line_end, spelled, is_blank, is_word_byte, goes_on, tokens}
use Rattle.blif_reader.specs.Words.{a_word, a_feed, is_empty, flaw_here}
use Rattle.std_laws.proofs.Searches.{prefix-on, prefix-off}

-- a blank makes no token
pub tokens-blank : (c : ℕ) (cs : List ℕ) → is_blank c ≡ true → tokens (c ∷ cs) ≡ tokens cs
unfolding tokens
tokens-blank c cs is = rw is refl

-- a line feed makes one
pub tokens-feed : (cs : List ℕ) → tokens (10 ∷ cs) ≡ line_end (length (10 ∷ cs)) ∷ tokens cs
unfolding tokens
tokens-feed cs = refl

-- the tokens are those behind the blanks
pub tokens-bare : (bs : List ℕ) → tokens (drop (prefix_len is_blank bs) bs) ≡ tokens bs
tokens-bare [] = refl
tokens-bare (c ∷ cs) = elim (cases_Bool (is_blank c)) [ inl is ↦ rw (prefix-on is_blank c cs is) (tokens-bare cs ∙ sym (tokens-blank c cs is)) | inr is ↦ rw (prefix-off is_blank c cs is) refl ]

-- behind the blanks no blank stands first
pub bare : (bs : List ℕ) → begins_blank (drop (prefix_len is_blank bs) bs) ≡ false
bare [] = refl
bare (c ∷ cs) = elim (cases_Bool (is_blank c)) [ inl is ↦ rw (prefix-on is_blank c cs is) (bare cs) | inr is ↦ rw (prefix-off is_blank c cs is) is ]

-- a byte of a word is no blank and no line_end
pub word_byte-parts : (c : ℕ) → is_word_byte c ≡ true → (is_blank c ≡ false) × ((c == 10) ≡ false)
word_byte-parts c is = let p = and_parts (not (is_blank c)) (not (c == 10)) is in (not-true (is_blank c) p.0, not-true (c == 10) p.1)

-- a word of one byte
token-starts : (c : ℕ) (cs : List ℕ) → is_word_byte c ≡ true → goes_on cs ≡ false → tokens (c ∷ cs) ≡ word (spelled (c ∷ []) (length (c ∷ cs))) ∷ tokens cs
unfolding tokens
token-starts c cs is on = let p = word_byte-parts c is in rw (p.0, p.1, on) refl

-- a word with one more byte
token-on : (c : ℕ) (cs : List ℕ) (w : Spelled) (ts : List Token) → is_word_byte c ≡ true → goes_on cs ≡ true → tokens cs ≡ word w ∷ ts
    → tokens (c ∷ cs) ≡ word (spelled (c ∷ w.text) (length (c ∷ cs))) ∷ ts
unfolding tokens
token-on c cs w ts is on rest = let p = word_byte-parts c is in rw (p.0, p.1, on, rest) refl

-- where no word goes on, none is there
goes_on-none : (cs : List ℕ) → goes_on cs ≡ false → prefix_len is_word_byte cs ≡ 0
goes_on-none [] on = refl
goes_on-none (c ∷ cs) on = prefix-off is_word_byte c cs on

-- a word is the longest run of its bytes
pub tokens-word : (bs : List ℕ) → goes_on bs ≡ true
    → tokens bs ≡ word (spelled (take (prefix_len is_word_byte bs) bs) (length bs)) ∷ tokens (drop (prefix_len is_word_byte bs) bs)
tokens-word [] on = absurd (true≢false (sym on))
tokens-word (c ∷ cs) on = elim (cases_Bool (goes_on cs)) [
  | inl more ↦ rw (prefix-on is_word_byte c cs on) (token-on c cs _ _ on more (tokens-word cs more))
  | inr none ↦ rw (prefix-on is_word_byte c cs on, goes_on-none cs none) (token-starts c cs on none)
]

-- any other byte is one of a word
pub word_byte-from : (c : ℕ) → is_blank c ≡ false → (c == 10) ≡ false → is_word_byte c ≡ true
word_byte-from c p q = rw (p, q) refl

-- where no blank stands first, a byte is a line feed or a word's
data First (c : ℕ) (cs : List ℕ) : Type 0 where
  ends : (c == 10) ≡ true → tokens (c ∷ cs) ≡ line_end (length (c ∷ cs)) ∷ tokens cs → First c cs
  begins : (c == 10) ≡ false → is_word_byte c ≡ true → First c cs

-- the first of the two
line_end-at : (c : ℕ) (cs : List ℕ) → is_blank c ≡ false → (c == 10) ≡ true → tokens (c ∷ cs) ≡ line_end (length (c ∷ cs)) ∷ tokens cs
unfolding tokens
line_end-at c cs p q = rw (p, q) refl

-- one of the two holds
first-of : (c : ℕ) (cs : List ℕ) → is_blank c ≡ false → First c cs
first-of c cs p = elim (cases_Bool (c == 10)) [ inl q ↦ ends q (line_end-at c cs p q) | inr q ↦ begins q (word_byte-from c p q) ]

-- no bytes make no tokens
tokens-none : tokens [] ≡ []
unfolding tokens
tokens-none = refl

-- where the text goes on, what stands first is at fault
pub flaw-some : (bs : List ℕ) → begins_blank bs ≡ false → length bs ≢ 0 → flaw_here (tokens bs) ≡ record { kind = faults.Word; left = length bs }
flaw-some [] h some = absurd (some refl)
flaw-some (c ∷ cs) h some = elim (first-of c cs h) [ ends q e ↦ rw e refl | begins q is ↦ rw (tokens-word (c ∷ cs) is) refl ]

-- where the text ends, its end is at fault
pub flaw-none : (bs : List ℕ) → length bs ≡ 0 → flaw_here (tokens bs) ≡ record { kind = faults.Ends; left = 0 }
flaw-none [] h = rw tokens-none refl
flaw-none (c ∷ cs) h = absurd (omega (arith, h))

-- the word that comes next
pub word-found : (bs : List ℕ) → prefix_len is_word_byte bs ≢ 0
    → a_word (tokens bs) ≡ Ok (spelled (take (prefix_len is_word_byte bs) bs) (length bs), tokens (drop (prefix_len is_word_byte bs) bs))
word-found bs some = elim (cases_Bool (goes_on bs)) [ inl on ↦ rw (tokens-word bs on) refl | inr off ↦ absurd (some (goes_on-none bs off)) ]

-- no word comes next
pub word-none : (bs : List ℕ) → begins_blank bs ≡ false → prefix_len is_word_byte bs ≡ 0 → a_word (tokens bs) ≡ Err (flaw_here (tokens bs))
word-none [] h none = rw tokens-none refl
word-none (c ∷ cs) h none = elim (first-of c cs h) [ ends q e ↦ rw e refl | begins q is ↦ absurd (omega (arith, none, prefix-on is_word_byte c cs is)) ]

-- the line feed that comes next
pub end-found : (bs : List ℕ) → length bs ≢ 0 → slice_index bs 0 ≡ 10 → a_feed (tokens bs) ≡ Ok (tokens (drop 1 bs))
end-found [] some is = absurd (some refl)
end-found (c ∷ cs) some is = rw (is, tokens-feed cs) refl

-- no line feed comes next
pub end-none : (bs : List ℕ) → begins_blank bs ≡ false → slice_index bs 0 ≢ 10 → a_feed (tokens bs) ≡ Err (flaw_here (tokens bs))
end-none [] h differs = rw tokens-none refl
end-none (c ∷ cs) h differs = elim (first-of c cs h) [ ends q e ↦ absurd (differs (eqb-true c 10 q)) | begins q is ↦ rw (tokens-word (c ∷ cs) is) refl ]

-- nothing comes next
pub end-empty : (bs : List ℕ) → length bs ≡ 0 → a_feed (tokens bs) ≡ Err (flaw_here (tokens bs))
end-empty [] h = rw tokens-none refl
end-empty (c ∷ cs) h = absurd (omega (arith, h))

-- behind the blanks a text with bytes has tokens
pub empty-is : (bs : List ℕ) → begins_blank bs ≡ false → (length bs == 0) ≡ is_empty (tokens bs)
empty-is [] h = rw tokens-none refl
empty-is (c ∷ cs) h = some-tokens (first-of c cs h) ∙ refl
  where
    some-tokens : First c cs → (length (c ∷ cs) == 0) ≡ is_empty (tokens (c ∷ cs))
    some-tokens (ends q e) = rw e (ne_eqb (length (c ∷ cs)) 0 (omega arith))
    some-tokens (begins q is) = rw (tokens-word (c ∷ cs) is) (ne_eqb (length (c ∷ cs)) 0 (omega arith))
