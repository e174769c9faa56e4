use Rattle.std.proofs.Common.{◌≡◌, refl, ap, length, ℕ, suc, ◌+◌, List, [], ◌∷◌, ◌++◌, take, drop, Bool, true, false, cond, arith}
use Rattle.std.specs.List.{list_all, prefix_len}
use Rattle.std.specs.Prelude.{◌&&◌, if◌then◌else◌}
use Rattle.cif_text.specs.Bytes.{is_white, span, without_tail}

-- the longest front of such bytes and the rest, by the front's length
pub span-parts : (p : ℕ → Bool) (bytes : List ℕ) → span p bytes ≡ (take (prefix_len p bytes) bytes, drop (prefix_len p bytes) bytes)
span-parts p [] = refl
span-parts p (c ∷ cs) = by (p c) (span-parts p cs)
  where
    by : (b : Bool) → span p cs ≡ (take (prefix_len p cs) cs, drop (prefix_len p cs) cs)
        → (if◌then◌else◌ {A = List ℕ × List ℕ} b (c ∷ (span p cs).0, (span p cs).1) ([], c ∷ cs))
        ≡ (take (cond b (1 + prefix_len p cs) 0) (c ∷ cs), drop (cond b (1 + prefix_len p cs) 0) (c ∷ cs))
    by true others =
        let one : 1 + prefix_len p cs ≡ suc (prefix_len p cs) = omega arith in
        rw (one, others) refl
    by false others = refl

-- white at the end
white-end : (xs : List ℕ) (c : ℕ) → is_white c ≡ true → list_all is_white (xs ++ c ∷ []) ≡ list_all is_white xs
white-end [] c white = rw white refl
white-end (x ∷ xs) c white = ap (λ (b : Bool). is_white x && b) (white-end xs c white)

other-end : (xs : List ℕ) (c : ℕ) → is_white c ≡ false → list_all is_white (xs ++ c ∷ []) ≡ false
other-end [] c other = rw other refl
other-end (x ∷ xs) c other = rw (other-end xs c other) (neither (is_white x))
  where
    neither : (b : Bool) → (b && false) ≡ false
    neither true = refl
    neither false = refl

pub tail-white : (xs : List ℕ) (c : ℕ) → is_white c ≡ true → without_tail (xs ++ c ∷ []) ≡ without_tail xs
tail-white [] c white = rw white refl
tail-white (x ∷ xs) c white = rw (white-end xs c white, tail-white xs c white) refl

pub tail-kept : (xs : List ℕ) (c : ℕ) → is_white c ≡ false → without_tail (xs ++ c ∷ []) ≡ xs ++ c ∷ []
tail-kept [] c other = rw other refl
tail-kept (x ∷ xs) c other = rw (other-end xs c other, tail-kept xs c other) (kept (is_white x))
  where
    kept : (b : Bool) → (if b && false then [] else x ∷ (xs ++ c ∷ [])) ≡ x ∷ (xs ++ c ∷ [])
    kept true = refl
    kept false = refl

-- where the first other byte stands
pub span-length : (p : ℕ → Bool) (bytes : List ℕ) → length (span p bytes).0 ≡ prefix_len p bytes
span-length p [] = refl
span-length p (c ∷ cs) = by (p c) (span-length p cs)
  where
    by : (b : Bool) → length (span p cs).0 ≡ prefix_len p cs
        → length (if◌then◌else◌ {A = List ℕ × List ℕ} b (c ∷ (span p cs).0, (span p cs).1) ([], c ∷ cs)).0 ≡ cond b (1 + prefix_len p cs) 0
    by true others = omega (arith, others)
    by false others = refl
