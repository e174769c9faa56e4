use Rattle.std.proofs.Common.{ℕ, List, sum_by, ◌≡◌, ◌+◌, ◌∷◌, ◌<◌, ◌≤◌, [], refl, arith, if◌then◌else◌, eqb, ap, inl, inr, suc, length, get_or}
use Rattle.std.proofs.lemmas.List.Sums.{sum_by-cons}
use Rattle.std.proofs.lemmas.Bool.{eq-eqb, ne_eqb, cases_order}
use Rattle.std.specs.List.Sorted.{IsNonDecreasing, IsSorted}
use Rattle.std.specs.Ordering.{nat_cmp}
use Rattle.std.proofs.lemmas.List.Sorted.{IsNonDecreasingBy-from_sort}

-- 1 for the number looked for
abbrev pub hit : ℕ → ℕ → ℕ
hit v k = if eqb k v then 1 else 0

-- how often a number stands in a list
abbrev pub frequency : ℕ → List ℕ → ℕ
frequency v xs = sum_by (hit v) xs

pub frequency-cons : (v x : ℕ) (xs : List ℕ) → frequency v (x ∷ xs) ≡ hit v x + frequency v xs
frequency-cons v x xs = sum_by-cons (hit v) x xs

-- numbers that don't fall, none below n
abbrev pub RisesFrom : ℕ → List ℕ → Type 0
RisesFrom n [] = Unit {0}
RisesFrom n (x ∷ xs) = (n ≤ x) × RisesFrom x xs

hit-other : (v k : ℕ) → v < k → hit v k ≡ 0
hit-other v k below = ap (λ b. if b then 1 else 0) (ne_eqb k v (λ same. omega arith))

-- a number below all of a list doesn't stand in it
pub frequency-below : (v n : ℕ) (xs : List ℕ) → v < n → RisesFrom n xs → frequency v xs ≡ 0
frequency-below v n [] below rises = refl
frequency-below v n (x ∷ xs) below rises =
    let low : n ≤ x = rises.0 in
    let less : v < x = omega arith in
    let none : hit v x ≡ 0 = hit-other v x less in
    let later : frequency v xs ≡ 0 = frequency-below v x xs less rises.1 in
    let all : frequency v (x ∷ xs) ≡ hit v x + frequency v xs = frequency-cons v x xs in
    omega arith

hit-same : (v : ℕ) → hit v v ≡ 1
hit-same v = ap (λ b. if b then 1 else 0) (eq-eqb v v refl)

-- two rising lists in which each number stands equally often are one
pub rising-same : (n m : ℕ) (xs ys : List ℕ) → RisesFrom n xs → RisesFrom m ys → ((v : ℕ) → frequency v xs ≡ frequency v ys) → xs ≡ ys
rising-same n m [] [] x_rises y_rises same = refl
rising-same n m [] (y ∷ ys) x_rises y_rises same =
    let none : frequency y [] ≡ frequency y (y ∷ ys) = same y in
    let all : frequency y (y ∷ ys) ≡ hit y y + frequency y ys = frequency-cons y y ys in
    let one : hit y y ≡ 1 = hit-same y in
    let nothing : frequency y [] ≡ 0 = refl in
    absurd (omega arith)
rising-same n m (x ∷ xs) [] x_rises y_rises same =
    let none : frequency x (x ∷ xs) ≡ frequency x [] = same x in
    let all : frequency x (x ∷ xs) ≡ hit x x + frequency x xs = frequency-cons x x xs in
    let one : hit x x ≡ 1 = hit-same x in
    let nothing : frequency x [] ≡ 0 = refl in
    absurd (omega arith)
rising-same n m (x ∷ xs) (y ∷ ys) x_rises y_rises same =
    let first : x ≡ y = elim (cases_order x y) [
      | inl equal ↦ equal
      | inr apart ↦ elim apart [
        | inl less ↦
            let none : frequency x (y ∷ ys) ≡ 0 = frequency-below x y (y ∷ ys) less (omega arith, y_rises.1) in
            let equal : frequency x (x ∷ xs) ≡ frequency x (y ∷ ys) = same x in
            let all : frequency x (x ∷ xs) ≡ hit x x + frequency x xs = frequency-cons x x xs in
            let one : hit x x ≡ 1 = hit-same x in
            absurd (omega arith)
        | inr more ↦
            let none : frequency y (x ∷ xs) ≡ 0 = frequency-below y x (x ∷ xs) more (omega arith, x_rises.1) in
            let equal : frequency y (x ∷ xs) ≡ frequency y (y ∷ ys) = same y in
            let all : frequency y (y ∷ ys) ≡ hit y y + frequency y ys = frequency-cons y y ys in
            let one : hit y y ≡ 1 = hit-same y in
            absurd (omega arith)
      ]
    ] in
    let later : xs ≡ ys = rising-same x y xs ys x_rises.1 y_rises.1 (λ v.
    let equal : frequency v (x ∷ xs) ≡ frequency v (y ∷ ys) = same v in
    let left : frequency v (x ∷ xs) ≡ hit v x + frequency v xs = frequency-cons v x xs in
    let right : frequency v (y ∷ ys) ≡ hit v y + frequency v ys = frequency-cons v y ys in
    let one : hit v x ≡ hit v y = ap (hit v) first in
    omega arith) in
    cc

rises_from : (n : ℕ) (xs : List ℕ) → IsNonDecreasing xs → ((d : ℕ) → 0 < length xs → n ≤ get_or xs 0 d) → RisesFrom n xs
rises_from n [] up low = tt
rises_from n (x ∷ xs) up low = (
  low 0 (omega arith),
  rises_from x xs (λ i j d on within. up (suc i) (suc j) d (omega arith) (omega arith)) (λ d some. up 0 1 d (omega arith) (omega arith)),
)

-- what a sort leaves rises
pub rises-sorted : (xs : List ℕ) → IsSorted nat_cmp xs → RisesFrom 0 xs
rises-sorted xs sorted = rises_from 0 xs (IsNonDecreasingBy-from_sort (λ x. x) xs sorted) (λ d some. omega arith)
