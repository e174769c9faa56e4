use Rattle.std.proofs.Common.{◌≡◌, refl, sym, ◌<◌, ◌≤◌, ◌+◌, ℕ, suc, List, [], ◌∷◌, inl, inr, arith, Contains}
use Rattle.std.proofs.lemmas.List.Elements.{Contains-append_right}
use Rattle.std.proofs.lemmas.List.Kept.{AllPairs-from_increasing}
use Rattle.std.specs.List.{AllPairs}
use Rattle.std.specs.List.Sorted.{IsStrictlyIncreasing}
use Rattle.channel_model.specs.Nets.{AreNets}
use Rattle.channel_model.specs.Pins.{Pins}
use Rattle.std_laws.proofs.Members.{member-head, member-cases}

-- numbers that ascend, the first of which is at least m
abbrev Ascend : ℕ → List ℕ → Type 0
Ascend m [] = Unit {0}
Ascend m (x ∷ xs) = (m ≤ x) × Ascend (x + 1) xs

abbrev Begins : ℕ → List ℕ → Type 0
Begins m [] = Unit {0}
Begins m (x ∷ xs) = m ≤ x

ascend-from : (m : ℕ) (xs : List ℕ) → AllPairs (λ (x y : ℕ). x < y) xs → Begins m xs → Ascend m xs
ascend-from m [] pairs begins = tt
ascend-from m (x ∷ []) pairs begins = (begins, tt)
ascend-from m (x ∷ (y ∷ ys)) pairs begins =
    let next : x < y = pairs 0 1 0 (omega arith) (omega arith) in
    (begins, ascend-from (x + 1) (y ∷ ys) (λ i j d less within. pairs (suc i) (suc j) d (omega arith) (omega arith)) (omega arith))

begins-zero : (xs : List ℕ) → Begins 0 xs
begins-zero [] = tt
begins-zero (x ∷ xs) = omega arith

-- no member is below the first
ascend-member : (m n : ℕ) (xs : List ℕ) → Ascend m xs → Contains xs n → m ≤ n
ascend-member m n [] ascend member = absurd (omega (arith, member.1))
ascend-member m n (x ∷ xs) ascend member =
    elim (member-cases x xs n member) [
      | inl same ↦ let least = ascend.0 in omega (arith, same)
      | inr later ↦
          let least = ascend.0 in
          let above : x + 1 ≤ n = ascend-member (x + 1) n xs ascend.1 later in
          omega arith
    ]

-- each member of xs is one of ys
abbrev Within : List ℕ → List ℕ → Type 0
Within xs ys = (n : ℕ) → Contains xs n → Contains ys n

same-first : (x y m k : ℕ) (xs ys : List ℕ) → Ascend m (x ∷ xs) → Ascend k (y ∷ ys) → Within (x ∷ xs) (y ∷ ys) → Within (y ∷ ys) (x ∷ xs) → x ≡ y
same-first x y m k xs ys first second into back =
    elim (member-cases y ys x (into x (member-head x xs))) [
      | inl same ↦ sym same
      | inr later ↦ elim (member-cases x xs y (back y (member-head y ys))) [
        | inl equal ↦ equal
        | inr further ↦
            let a : y + 1 ≤ x = ascend-member (y + 1) x ys second.1 later in
            let b : x + 1 ≤ y = ascend-member (x + 1) y xs first.1 further in
            absurd (omega arith)
      ]
    ]

-- a list without its first, within the other without its first
within-rest : (x y : ℕ) (xs ys : List ℕ) → x ≡ y → Ascend (x + 1) xs → Within (x ∷ xs) (y ∷ ys) → Within xs ys
within-rest x y xs ys same ascend into n member =
    elim (member-cases y ys n (into n (Contains-append_right (x ∷ []) xs n member))) [
      | inl equal ↦ let above : x + 1 ≤ n = ascend-member (x + 1) n xs ascend member in absurd (omega (arith, same, equal))
      | inr later ↦ later
    ]

ascend-same : (m k : ℕ) (xs ys : List ℕ) → Ascend m xs → Ascend k ys → Within xs ys → Within ys xs → xs ≡ ys
ascend-same m k [] [] first second into back = refl
ascend-same m k [] (y ∷ ys) first second into back = absurd (omega (arith, (back y (member-head y ys)).1))
ascend-same m k (x ∷ xs) [] first second into back = absurd (omega (arith, (into x (member-head x xs)).1))
ascend-same m k (x ∷ xs) (y ∷ ys) first second into back =
    let same : x ≡ y = same-first x y m k xs ys first second into back in
    let rest : xs ≡ ys = ascend-same (x + 1) (y + 1) xs ys first.1 second.1
    (within-rest x y xs ys same first.1 into) (within-rest y x ys xs (sym same) second.1 back) in
    (λ i. same i ∷ rest i)

ascends : (xs : List ℕ) → IsStrictlyIncreasing xs → Ascend 0 xs
ascends xs increasing = ascend-from 0 xs (AllPairs-from_increasing xs increasing) (begins-zero xs)

-- the nets of a channel are one list
pub AreNets-one : (pins : Pins) (xs ys : List ℕ) → AreNets pins xs → AreNets pins ys → xs ≡ ys
AreNets-one pins xs ys first second =
    ascend-same 0 0 xs ys (ascends xs first.ascending) (ascends ys second.ascending)
    (λ n member. second.listed n (first.standing n member)) (λ n member. first.listed n (second.standing n member))
