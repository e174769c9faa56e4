use Rattle.std.proofs.Common.{◌≡◌, ℕ, true, false, List, [], ◌∷◌, ◌++◌, length, drop, refl, sym, ap, ◌∙◌, append_assoc, append-nil, None, Some, Result, Ok, Err, arith}
use Rattle.std.proofs.Math.Bool.{true≢false}
use Rattle.yal_reader.specs.Text.{begins_with, onto, open_comment, uncommented, with_text}
use Rattle.read_base.specs.Answers.{Fails, flaw_of}
use Rattle.yal_reader.specs.Flaws.{Stop}
use Rattle.read_base.specs.declared.stop.Stop.TheVariants.{At, Memory}
use Rattle.yal_reader.specs.Flaws.{Flaw}

-- the end of a comment, and a byte before it
pub comment-ends : (left : ℕ) (bs : List ℕ) → begins_with 42 47 bs ≡ true → uncommented (Some left) bs ≡ onto 32 (onto 32 (uncommented None (drop 2 bs)))
unfolding uncommented
comment-ends left [] is = absurd (true≢false (sym is))
comment-ends left (c ∷ []) is = absurd (true≢false (sym is))
comment-ends left (c ∷ d ∷ cs) is = rw is refl

-- a byte of a comment
pub comment-on : (left : ℕ) (c : ℕ) (cs : List ℕ) → begins_with 42 47 (c ∷ cs) ≡ false → uncommented (Some left) (c ∷ cs) ≡ onto 32 (uncommented (Some left) cs)
unfolding uncommented
comment-on left c [] is = refl
comment-on left c (d ∷ cs) is = rw is refl

-- the beginning of a comment, and a byte before it
pub comment-begins : (bs : List ℕ) → begins_with 47 42 bs ≡ true → uncommented None bs ≡ onto 32 (onto 32 (uncommented (Some (length bs)) (drop 2 bs)))
unfolding uncommented
comment-begins [] is = absurd (true≢false (sym is))
comment-begins (c ∷ []) is = absurd (true≢false (sym is))
comment-begins (c ∷ d ∷ cs) is = rw is refl

-- a byte outside comments
pub plain-on : (c : ℕ) (cs : List ℕ) → begins_with 47 42 (c ∷ cs) ≡ false → uncommented None (c ∷ cs) ≡ onto c (uncommented None cs)
unfolding uncommented
plain-on c [] is = refl
plain-on c (d ∷ cs) is = rw is refl

-- no bytes
pub text-none : uncommented None [] ≡ Ok []
unfolding uncommented
text-none = refl

-- no end
pub comment-none : (left : ℕ) → uncommented (Some left) [] ≡ open_comment left
unfolding uncommented
comment-none left = refl

-- a byte moves from the text's front to the end of what stands before it
pub with_text-onto : (front : List ℕ) (c : ℕ) (text : Result (List ℕ) Flaw) → with_text front (onto c text) ≡ with_text (front ++ c ∷ []) text
with_text-onto front c (Ok cs) = ap (λ xs. Ok xs) (sym (append_assoc front (c ∷ []) cs))
with_text-onto front c (Err e) = refl

-- all is copied
pub with_text-end : (front : List ℕ) → with_text front (uncommented None []) ≡ Ok front
with_text-end front = rw text-none (ap (λ xs. Ok xs) (append-nil front))

-- a fault is that of the rest
pub with_text-fails : (front : List ℕ) (text : Result (List ℕ) Flaw) (e : Flaw) → with_text front text ≡ Err e → text ≡ Err e
with_text-fails front (Ok cs) e is = cc
with_text-fails front (Err f) e is = is

-- the same, with what was copied before
pub comment-passed : (front : List ℕ) (left : ℕ) (bs : List ℕ) → begins_with 42 47 bs ≡ true
    → with_text front (uncommented (Some left) bs) ≡ with_text ((front ++ 32 ∷ []) ++ 32 ∷ []) (uncommented None (drop 2 bs))
comment-passed front left bs is =
    rw (comment-ends left bs is) (with_text-onto front 32 (onto 32 (uncommented None (drop 2 bs))) ∙ with_text-onto (front ++ 32 ∷ []) 32 (uncommented None (drop 2 bs)))

-- one byte of a comment
pub comment-moves : (front : List ℕ) (left : ℕ) (bs : List ℕ) (c : ℕ) (cs : List ℕ) → bs ≡ c ∷ cs → begins_with 42 47 bs ≡ false
    → with_text front (uncommented (Some left) bs) ≡ with_text (front ++ 32 ∷ []) (uncommented (Some left) cs)
comment-moves front left bs c cs e is = rw (e, comment-on left c cs (rw e at is)) (with_text-onto front 32 (uncommented (Some left) cs))

-- a comment without an end
pub comment-stays_open : (front : List ℕ) (left : ℕ) (bs : List ℕ) → length bs ≡ 0 → with_text front (uncommented (Some left) bs) ≡ open_comment left
comment-stays_open front left [] e = rw (comment-none left) refl
comment-stays_open front left (c ∷ cs) e = absurd (omega (arith, e))

-- the beginning of a comment
pub comment-opened : (front : List ℕ) (bs : List ℕ) → begins_with 47 42 bs ≡ true
    → with_text front (uncommented None bs) ≡ with_text ((front ++ 32 ∷ []) ++ 32 ∷ []) (uncommented (Some (length bs)) (drop 2 bs))
comment-opened front bs is =
    rw (comment-begins bs is)
    (with_text-onto front 32 (onto 32 (uncommented (Some (length bs)) (drop 2 bs))) ∙ with_text-onto (front ++ 32 ∷ []) 32 (uncommented (Some (length bs)) (drop 2 bs)))

-- one byte outside comments
pub plain-moves : (front : List ℕ) (bs : List ℕ) (c : ℕ) (cs : List ℕ) → bs ≡ c ∷ cs → begins_with 47 42 bs ≡ false
    → with_text front (uncommented None bs) ≡ with_text (front ++ c ∷ []) (uncommented None cs)
plain-moves front bs c cs e is = rw (e, plain-on c cs (rw e at is)) (with_text-onto front c (uncommented None cs))

-- the end of the text
pub plain-ends : (front : List ℕ) (bs : List ℕ) → length bs ≡ 0 → with_text front (uncommented None bs) ≡ Ok front
plain-ends front [] e = with_text-end front
plain-ends front (c ∷ cs) e = absurd (omega (arith, e))

-- a fault in the comment that begins here is the whole text's
pub comment-ends_text : (front bs : List ℕ) (total : Result (List ℕ) Flaw) (stop : Stop) → begins_with 47 42 bs ≡ true → with_text front (uncommented None bs) ≡ total
    → Fails flaw_of stop (uncommented (Some (length bs)) (drop 2 bs)) → Fails flaw_of stop total
comment-ends_text front bs total Memory is so_far bad = tt
comment-ends_text front bs total (At e) is so_far bad = sym so_far ∙ (comment-opened front bs is ∙ rw bad refl)
