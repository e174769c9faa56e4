use Rattle.std.proofs.Common.{◌≡◌, ◌+◌, ◌<◌, ℕ, zero, suc, List, [], ◌∷◌, Bool, true, false, if◌then◌else◌, length, Some, refl, ap, subst, sym, ◌∙◌, arith}
use Rattle.std.specs.List.{slice_get}
use Rattle.rule_check.specs.Failing.{failing_from}
use Rattle.std_laws.proofs.Numbers.{add-step, add-none}

-- those of so many numbers that pass a test, where the first is given
abbrev pub picked : (ℕ → Bool) → ℕ → ℕ → List ℕ
picked p n zero = []
picked p n (suc count) = if p n then n ∷ picked p (n + 1) count else picked p (n + 1) count

-- a test that fails picks none
pub picked-none : (p : ℕ → Bool) (n count : ℕ) → ((i : ℕ) → i < count → p (n + i) ≡ false) → picked p n count ≡ []
picked-none p n zero fails = refl
picked-none p n (suc count) fails =
    let here : p n ≡ false = subst (λ (m : ℕ). p m ≡ false) (add-none n) (fails 0 (omega arith)) in
    ap (λ t. if t then n ∷ picked p (n + 1) count else picked p (n + 1) count) here
    ∙ picked-none p (n + 1) count (λ i within. subst (λ (m : ℕ). p m ≡ false) (sym (add-step n i)) (fails (suc i) (omega arith)))

-- the first of them fail
pub picked-later : (p : ℕ → Bool) (n skip count : ℕ) → ((i : ℕ) → i < skip → p (n + i) ≡ false) → picked p n (skip + count) ≡ picked p (n + skip) count
picked-later p n zero count fails =
    let first : 0 + count ≡ count = omega arith in
    ap (picked p n) first ∙ ap (λ m. picked p m count) (sym (add-none n))
picked-later p n (suc skip) count fails =
    let here : p n ≡ false = subst (λ (m : ℕ). p m ≡ false) (add-none n) (fails 0 (omega arith)) in
    let more : suc skip + count ≡ suc (skip + count) = omega arith in
    ap (picked p n) more
    ∙ ap (λ t. if t then n ∷ picked p (n + 1) (skip + count) else picked p (n + 1) (skip + count)) here
    ∙ picked-later p (n + 1) skip count (λ i within. subst (λ (m : ℕ). p m ≡ false) (sym (add-step n i)) (fails (suc i) (omega arith)))
    ∙ ap (λ m. picked p m count) (add-step n skip)

-- the members of a list that fail are picked by their numbers
pub failing-picked : {A : Type 0} (fails : A → Bool) (p : ℕ → Bool) (n : ℕ) (xs : List A) → ((i : ℕ) (x : A) → slice_get xs i ≡ Some x → fails x ≡ p (n + i))
    → failing_from fails n xs ≡ picked p n (length xs)
failing-picked fails p n [] same = refl
failing-picked fails p n (x ∷ xs) same =
    let here : fails x ≡ p n = same 0 x refl ∙ ap p (add-none n) in
    ap (λ t. if t then n ∷ failing_from fails (n + 1) xs else failing_from fails (n + 1) xs) here
    ∙ ap (λ rest. if p n then n ∷ rest else rest) (failing-picked fails p (n + 1) xs (λ i y is. same (suc i) y is ∙ ap p (sym (add-step n i))))

-- where none are picked, all fail the test
pub none-picked : (p : ℕ → Bool) (n count i : ℕ) → i < count → picked p n count ≡ [] → p (n + i) ≡ false
none-picked p n zero i within none = absurd (omega arith)
none-picked p n (suc count) i within none = by i (p n) refl none (λ j below rest. none-picked p (n + 1) count j below rest) within
  where
    by : (i : ℕ) (t : Bool) → p n ≡ t → (if t then n ∷ picked p (n + 1) count else picked p (n + 1) count) ≡ []
        → ((j : ℕ) → j < count → picked p (n + 1) count ≡ [] → p (n + 1 + j) ≡ false) → i < suc count → p (n + i) ≡ false
    by i true is none more within = let never : ⊥ = cc in absurd never
    by zero false is none more within = ap p (add-none n) ∙ is
    by (suc i) false is none more within = ap p (sym (add-step n i)) ∙ more i (omega arith) none
