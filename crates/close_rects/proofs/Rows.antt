use Rattle.std.proofs.Common.{◌≡◌, ◌+◌, ◌<◌, ◌≤◌, ℕ, zero, suc, ℤ, List, [], ◌∷◌, ◌++◌, true, false, if◌then◌else◌, length, drop, Some, refl, ap, sym, ◌∙◌, inl, inr, arith}
use Rattle.std.specs.List.{slice_get}
use Rattle.std.proofs.lemmas.Bool.{cases_lt}
use Rattle.geom_core.specs.Extent.{Extent}
use Rattle.close_rects.specs.ClosePairs.{is_close}
use Rattle.close_rects.specs.Rests.{pair_of, row_of, rows_of, rows_from, rest_at}
use Rattle.std_laws.proofs.Places.{drop-here, drop-past}
use Rattle.std_laws.proofs.Slices.{drop-one}

-- none of the rectangles from one place on up to before another is close to this one
abbrev pub NoneClose : ℤ → Extent → List (ℕ × Extent) → ℕ → ℕ → Type 0
NoneClose reach a rects low high =
    (k : ℕ) (b : ℕ × Extent) → low ≤ k → k < high → slice_get rects k ≡ Some b → is_close reach a b.1 ≡ false

-- rectangles that aren't close give no pair
pub row_of-past : (reach : ℤ) (a : ℕ × Extent) (rects : List (ℕ × Extent)) (low high : ℕ) → low ≤ high → NoneClose reach a.1 rects low high
    → row_of reach a (drop low rects) ≡ row_of reach a (drop high rects)
row_of-past reach a [] zero zero on none = refl
row_of-past reach a [] zero (suc high) on none = refl
row_of-past reach a [] (suc low) zero on none = refl
row_of-past reach a [] (suc low) (suc high) on none = refl
row_of-past reach a (b ∷ rects) zero zero on none = refl
row_of-past reach a (b ∷ rects) zero (suc high) on none =
    let far : is_close reach a.1 b.1 ≡ false = none 0 b (omega arith) (omega arith) refl in
    ap (λ t. if t then pair_of a b ∷ row_of reach a rects else row_of reach a rects) far
    ∙ row_of-past reach a rects zero high (omega arith) (λ k other from below is. none (suc k) other (omega arith) (omega arith) is)
row_of-past reach a (b ∷ rects) (suc low) zero on none = absurd (omega arith)
row_of-past reach a (b ∷ rects) (suc low) (suc high) on none =
    row_of-past reach a rects low high (omega arith) (λ k other from below is. none (suc k) other (omega arith) (omega arith) is)

pub row_of-here : (reach : ℤ) (a b : ℕ × Extent) (rects : List (ℕ × Extent)) (at : ℕ) → slice_get rects at ≡ Some b
    → is_close reach a.1 b.1 ≡ true → row_of reach a (drop at rects) ≡ pair_of a b ∷ row_of reach a (drop (suc at) rects)
row_of-here reach a b [] at is close = let never : ⊥ = cc in absurd never
row_of-here reach a b (first ∷ rects) zero is close =
    let same : first ≡ b = cc in
    ap (λ (f : ℕ × Extent). row_of reach a (f ∷ rects)) same
    ∙ ap (λ t. if t then pair_of a b ∷ row_of reach a rects else row_of reach a rects) close
row_of-here reach a b (first ∷ rects) (suc at) is close = row_of-here reach a b rects at is close

-- the first close one gives the first pair
pub rest_at-found : (reach : ℤ) (rects : List (ℕ × Extent)) (row at found : ℕ) (a b : ℕ × Extent) → slice_get rects row ≡ Some a
    → slice_get rects found ≡ Some b → at ≤ found → NoneClose reach a.1 rects at found → is_close reach a.1 b.1 ≡ true
    → rest_at reach rects row at ≡ pair_of a b ∷ rest_at reach rects row (found + 1)
rest_at-found reach rects row at found a b here there on none close =
    let step : suc found ≡ found + 1 = omega arith in
    let first : row_of reach a (drop at rects) ≡ pair_of a b ∷ row_of reach a (drop (found + 1) rects) =
    row_of-past reach a rects at found on none ∙ row_of-here reach a b rects found there close
    ∙ ap (λ k. pair_of a b ∷ row_of reach a (drop k rects)) step in
    ap (λ t. rows_from reach t (drop at rects)) (drop-here rects row a here)
    ∙ ap (λ t. t ++ rows_of reach (drop (suc row) rects)) first
    ∙ ap (λ t. pair_of a b ∷ rows_from reach t (drop (found + 1) rects)) (sym (drop-here rects row a here))

pub rows_from-all : (reach : ℤ) (rects : List (ℕ × Extent)) → rows_from reach rects (drop 1 rects) ≡ rows_of reach rects
rows_from-all reach [] = refl
rows_from-all reach (a ∷ rects) = refl

-- at the beginning of a row all later rows are left
pub rest_at-row : (reach : ℤ) (rects : List (ℕ × Extent)) (row : ℕ) → rest_at reach rects row (suc row) ≡ rows_of reach (drop row rects)
rest_at-row reach rects row =
    ap (λ t. rows_from reach (drop row rects) t) (sym (drop-one rects row)) ∙ rows_from-all reach (drop row rects)

row_of-none : (reach : ℤ) (a : ℕ × Extent) (rects : List (ℕ × Extent)) (at : ℕ) → NoneClose reach a.1 rects at (length rects)
    → row_of reach a (drop at rects) ≡ []
row_of-none reach a rects at none = elim (cases_lt (length rects) at) [
  | inl past ↦ ap (row_of reach a) (drop-past rects at (omega arith))
  | inr on ↦ row_of-past reach a rects at (length rects) on none ∙ ap (row_of reach a) (drop-past rects (length rects) (omega arith))
]

-- a row without a further close rectangle gives way to the next
pub rest_at-next : (reach : ℤ) (rects : List (ℕ × Extent)) (row at : ℕ) (a : ℕ × Extent) → slice_get rects row ≡ Some a
    → NoneClose reach a.1 rects at (length rects) → rest_at reach rects row at ≡ rest_at reach rects (row + 1) (row + 1 + 1)
rest_at-next reach rects row at a here none =
    let step : suc row ≡ row + 1 = omega arith in
    let further : suc (row + 1) ≡ row + 1 + 1 = omega arith in
    ap (λ t. rows_from reach t (drop at rects)) (drop-here rects row a here)
    ∙ ap (λ t. t ++ rows_of reach (drop (suc row) rects)) (row_of-none reach a rects at none)
    ∙ ap (λ k. rows_of reach (drop k rects)) step
    ∙ sym (rest_at-row reach rects (row + 1))
    ∙ ap (λ k. rest_at reach rects (row + 1) k) further
