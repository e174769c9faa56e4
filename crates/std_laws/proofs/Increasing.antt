use Rattle.std.proofs.Common.{◌≡◌, ◌<◌, ℕ, List, inl, inr, arith, length, get_or, ◌≤◌, ◌∙◌, Contains, ◌+◌, suc, ◌∷◌, eqb}
use Rattle.std.proofs.lemmas.Bool.{cases_lt, ne_eqb}
use Rattle.std.proofs.lemmas.List.Kept.{AllPairs-from_increasing}
use Rattle.std.specs.List.Sorted.{IsStrictlyIncreasing, IsNonDecreasing}
use Rattle.std.proofs.lemmas.List.{get_or_default}
use Rattle.std.proofs.lemmas.Map.Keys.{IsDistinct-from_apart}
use Rattle.std.specs.List.{IsDistinct}

-- two places of ascending nets with one net are one
pub increasing-same : (nets : List ℕ) (i j : ℕ) → IsStrictlyIncreasing nets → i < length nets → j < length nets → get_or nets i 0 ≡ get_or nets j 0 → i ≡ j
increasing-same nets i j ascending first second same =
    let pairs = AllPairs-from_increasing nets ascending in
    elim (cases_lt i j) [
      | inl below ↦ let less = pairs i j 0 below second in absurd (omega arith)
      | inr above ↦ elim (cases_lt j i) [
        | inl over ↦ let less = pairs j i 0 over first in absurd (omega arith)
        | inr under ↦ omega arith
      ]
    ]

-- ascending nets do not fall
pub increasing-at : (nets : List ℕ) → IsStrictlyIncreasing nets → (i j : ℕ) → i ≤ j → j < length nets → get_or nets i 0 ≤ get_or nets j 0
increasing-at nets ascending i j le within =
    elim (cases_lt i j) [
      | inl below ↦ let less = AllPairs-from_increasing nets ascending i j 0 below within in omega arith
      | inr above ↦ let same : i ≡ j = omega arith in rw same (omega arith)
    ]

-- a net that was not found is not there
pub increasing-missing : (nets : List ℕ) (net k : ℕ) → ((i : ℕ) → i < k → get_or nets i 0 < net) → ((i : ℕ) → k ≤ i → i < length nets → net < get_or nets i 0)
    → Contains nets net → ⊥
increasing-missing nets net k below above member =
    let there : get_or nets member.0 0 ≡ net = get_or_default nets member.0 0 net member.1 ∙ member.2 in
    elim (cases_lt member.0 k) [
      | inl less ↦ omega (arith, below member.0 less, there)
      | inr more ↦ omega (arith, above member.0 more member.1, there)
    ]

-- numbers of which each is below the next do not fall
pub increasing-rises : (xs : List ℕ) → IsStrictlyIncreasing xs → IsNonDecreasing xs
increasing-rises xs rising i j d order within =
    elim (cases_lt i j) [
      | inl below ↦ let less = AllPairs-from_increasing xs rising i j d below within in omega (arith, less)
      | inr above ↦ let same : i ≡ j = omega arith in rw same (omega arith)
    ]

-- numbers of which each is below the next are apart
pub increasing-rest : (x : ℕ) (xs : List ℕ) → IsStrictlyIncreasing (x ∷ xs) → IsStrictlyIncreasing xs
increasing-rest x xs rising k within =
    let e : suc k + 1 ≡ suc (k + 1) = omega arith in
    rw e at (rising (suc k) (omega arith))

-- ascending numbers are different
pub increasing-distinct : (xs : List ℕ) → IsStrictlyIncreasing xs → IsDistinct eqb xs
increasing-distinct xs ascending =
    IsDistinct-from_apart eqb xs (λ i j d before within. ne_eqb _ _ (λ same. omega (arith, AllPairs-from_increasing xs ascending i j d before within)))
