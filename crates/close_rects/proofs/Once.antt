use Rattle.std.proofs.Common.{◌≡◌, ◌≢◌, ◌+◌, ◌<◌, min, max, ℕ, zero, suc, ℤ, List, [], ◌∷◌, ◌++◌, Bool, true, false, if◌then◌else◌, Some, ap, sym, subst, ◌∙◌, inl, inr, arith}
use Rattle.std.specs.Prelude.{Contains, All, AllPairs}
use Rattle.std.specs.List.{slice_get, enumerate_from, AllByRecursion, IsDistinct}
use Rattle.std.specs.List.Sorted.{IsPermutation}
use Rattle.std.proofs.lemmas.List.Sorted.{Contains-permutation, IsPermutation-sym}
use Rattle.std.proofs.lemmas.List.Elements.{All-contains_itself, Contains-append_cases}
use Rattle.std.proofs.lemmas.List.Kept.{AllPairs-cons}
use Rattle.std.proofs.lemmas.Map.Keys.{IsDistinct-IsPermutation, IsDistinct-cons, IsDistinct-head, IsDistinct-tail}
use Rattle.std.proofs.lemmas.Bool.{cases_eq, cases_lt, eq-eqb, ne_eqb}
use Rattle.geom_core.specs.Extent.{Extent}
use Rattle.close_rects.specs.ClosePairs.{is_close, IsClosePair, AreClosePairs}
use Rattle.close_rects.specs.Rests.{pair_of, row_of, rows_of}
use Rattle.close_rects.proofs.Closeness.{is_close-comm}
use Rattle.close_rects.proofs.Pairs.{HaveNumbers, IsMade, IsSecond, not_here, pair_of-comm, pair_of-less, row_among, rows_among, rows_contain, same_number}
use Rattle.std_laws.proofs.Members.{member-head, member-tail, member-cases, member-none}

-- no pair stands in a list again
abbrev pub StandOnce : List (ℕ × ℕ) → Type 0
StandOnce [] = Unit {0}
StandOnce (p ∷ pairs) = (¬ Contains pairs p) × StandOnce pairs

none_of : (p : ℕ × ℕ) (pairs : List (ℕ × ℕ)) → ¬ Contains pairs p → All (λ q. p ≢ q) pairs
none_of p pairs none k d within =
    λ same. none (subst (λ (q : ℕ × ℕ). Contains pairs q) (sym same) (All-contains_itself pairs k d within))

AllPairs-once : (pairs : List (ℕ × ℕ)) → StandOnce pairs → AllPairs (λ p q. p ≢ q) pairs
AllPairs-once [] once = λ i j d before within. absurd (omega arith)
AllPairs-once (p ∷ pairs) once =
    AllPairs-cons (λ (p q : ℕ × ℕ). p ≢ q) p pairs (none_of p pairs once.0) (AllPairs-once pairs once.1)

StandOnce-append : (left right : List (ℕ × ℕ)) → StandOnce left → StandOnce right
    → ((p : ℕ × ℕ) → Contains left p → ¬ Contains right p) → StandOnce (left ++ right)
StandOnce-append [] right left_once right_once apart = right_once
StandOnce-append (p ∷ left) right left_once right_once apart = (
  λ among. elim (Contains-append_cases left right p among) [
    | inl in_left ↦ left_once.0 in_left
    | inr in_right ↦ apart p (member-head p left) in_right
  ],
  StandOnce-append left right left_once.1 right_once (λ q among. apart q (member-tail p left q among)),
)

-- two pairs with one number in common are equal only if the other is
other_same : (a b c : ℕ × Extent) → pair_of a b ≡ pair_of a c → b.0 ≡ c.0
other_same a b c same =
    let least : min a.0 b.0 ≡ min a.0 c.0 = ap (λ (p : ℕ × ℕ). p.0) same in
    let greatest : max a.0 b.0 ≡ max a.0 c.0 = ap (λ (p : ℕ × ℕ). p.1) same in
    omega arith

row_once : (reach : ℤ) (a : ℕ × Extent) (rects : List (ℕ × Extent)) → HaveNumbers rects → StandOnce (row_of reach a rects)
row_once reach a [] numbers = tt
row_once reach a (b ∷ rects) numbers =
    cases (is_close reach a.1 b.1) (row_once reach a rects (IsDistinct-tail same_number b rects numbers))
  where
    new : ¬ Contains (row_of reach a rects) (pair_of a b)
    new among =
        let found : IsSecond reach a rects (pair_of a b) = row_among reach a rects (pair_of a b) among in
        not_here b rects (IsDistinct-head same_number b rects numbers) found.0 found.1 (other_same a b found.0 found.3)

    cases : (t : Bool) → StandOnce (row_of reach a rects) → StandOnce (if t then pair_of a b ∷ row_of reach a rects else row_of reach a rects)
    cases true once = (new, once)
    cases false once = once

rows_once : (reach : ℤ) (rects : List (ℕ × Extent)) → HaveNumbers rects → StandOnce (rows_of reach rects)
rows_once reach [] numbers = tt
rows_once reach (a ∷ rects) numbers =
    StandOnce-append (row_of reach a rects) (rows_of reach rects) (row_once reach a rects later) (rows_once reach rects later)
    (λ p here there.
    let found : IsSecond reach a rects p = row_among reach a rects p here in
    let made : IsMade reach rects p = rows_among reach rects p later there in
    let same : pair_of a found.0 ≡ pair_of made.a made.b = sym found.3 ∙ made.is in
    let least : min a.0 found.0.0 ≡ min made.a.0 made.b.0 = ap (λ (q : ℕ × ℕ). q.0) same in
    let greatest : max a.0 found.0.0 ≡ max made.a.0 made.b.0 = ap (λ (q : ℕ × ℕ). q.1) same in
    let not_first : a.0 ≢ made.a.0 = not_here a rects head made.a made.a_among in
    let not_second : a.0 ≢ made.b.0 = not_here a rects head made.b made.b_among in
    omega arith)
  where
    later : HaveNumbers rects
    later = IsDistinct-tail same_number a rects numbers

    head : AllByRecursion (λ b. same_number a b ≡ false) rects
    head = IsDistinct-head same_number a rects numbers

-- the numbers of a list from n on differ from those before
numbers_past : (m n : ℕ) (x : Extent) (rects : List Extent) → m < n
    → AllByRecursion (λ (b : ℕ × Extent). same_number (m, x) b ≡ false) (enumerate_from n rects)
numbers_past m n x [] below = tt
numbers_past m n x (y ∷ rects) below =
    let apart : m ≢ n = omega arith in (ne_eqb m n apart, numbers_past m (n + 1) x rects (omega arith))

HaveNumbers-enumerated : (n : ℕ) (rects : List Extent) → HaveNumbers (enumerate_from n rects)
unfolding IsDistinct
HaveNumbers-enumerated n [] = tt
HaveNumbers-enumerated n (x ∷ rects) =
    IsDistinct-cons same_number (n, x) (enumerate_from (n + 1) rects) (numbers_past n (n + 1) x rects (omega arith))
    (HaveNumbers-enumerated (n + 1) rects)

-- a numbered rectangle stands in the list at its number
at_number : (n : ℕ) (rects : List Extent) (a : ℕ × Extent) → Contains (enumerate_from n rects) a
    → (k : ℕ) × (a.0 ≡ n + k) × (slice_get rects k ≡ Some a.1)
at_number n [] a among = absurd (member-none a among)
at_number n (x ∷ rects) a among = elim (member-cases (n, x) (enumerate_from (n + 1) rects) a among) [
  | inl same ↦
      let number : n ≡ a.0 = ap (λ (p : ℕ × Extent). p.0) same in
      (0, omega arith, ap (λ (p : ℕ × Extent). Some p.1) same)
  | inr later ↦
      let found : (k : ℕ) × (a.0 ≡ n + 1 + k) × (slice_get rects k ≡ Some a.1) = at_number (n + 1) rects a later in
      (suc found.0, omega arith, found.2)
]

pub numbered_at : (n : ℕ) (rects : List Extent) (k m : ℕ) (x : Extent) → slice_get rects k ≡ Some x → n + k ≡ m → Contains (enumerate_from n rects) (m, x)
numbered_at n [] k m x is sum = let never : ⊥ = cc in absurd never
numbered_at n (y ∷ rects) zero m x is sum =
    let same : y ≡ x = cc in
    let number : n ≡ m = omega arith in
    let first : (n, y) ≡ (m, x) = cc in
    subst (λ (p : ℕ × Extent). Contains (enumerate_from n (y ∷ rects)) p) first (member-head (n, y) (enumerate_from (n + 1) rects))
numbered_at n (y ∷ rects) (suc k) m x is sum =
    member-tail (n, y) (enumerate_from (n + 1) rects) (m, x) (numbered_at (n + 1) rects k m x is (omega arith))

pub stands_at : (rects : List Extent) (a : ℕ × Extent) → Contains (enumerate_from 0 rects) a → slice_get rects a.0 ≡ Some a.1
stands_at rects a among =
    let found : (k : ℕ) × (a.0 ≡ 0 + k) × (slice_get rects k ≡ Some a.1) = at_number 0 rects a among in
    let number : found.0 ≡ a.0 = omega arith in
    ap (λ k. slice_get rects k) (sym number) ∙ found.2

same_number-comm : (a b : ℕ × Extent) → same_number a b ≡ same_number b a
same_number-comm a b = elim (cases_eq a.0 b.0) [
  | inl same ↦ eq-eqb a.0 b.0 same ∙ sym (eq-eqb b.0 a.0 (sym same))
  | inr apart ↦ ne_eqb a.0 b.0 apart ∙ sym (ne_eqb b.0 a.0 (λ same. apart (sym same)))
]

-- in any order the rows of numbered rectangles are their close pairs
pub AreClosePairs-rows : (reach : ℤ) (rects : List Extent) (moved : List (ℕ × Extent)) → IsPermutation (enumerate_from 0 rects) moved
    → AreClosePairs reach rects (rows_of reach moved)
AreClosePairs-rows reach rects moved order = record {
  each = λ pair. (from pair, to pair);
  once = AllPairs-once (rows_of reach moved) (rows_once reach moved numbers);
}
  where
    numbers : HaveNumbers moved
    numbers = IsDistinct-IsPermutation same_number same_number-comm (enumerate_from 0 rects) moved order (HaveNumbers-enumerated 0 rects)

    stands : (a : ℕ × Extent) → Contains moved a → slice_get rects a.0 ≡ Some a.1
    stands a among = stands_at rects a (Contains-permutation moved (enumerate_from 0 rects) a (IsPermutation-sym _ _ order) among)

    from : (pair : ℕ × ℕ) → Contains (rows_of reach moved) pair → IsClosePair reach rects pair
    from pair among =
        let made : IsMade reach moved pair = rows_among reach moved pair numbers among in
        let first : slice_get rects made.a.0 ≡ Some made.a.1 = stands made.a made.a_among in
        let second : slice_get rects made.b.0 ≡ Some made.b.1 = stands made.b made.b_among in
        elim (cases_lt made.a.0 made.b.0) [
          | inl less ↦
              let is : pair ≡ (made.a.0, made.b.0) = made.is ∙ pair_of-less made.a made.b less in
              rw is (record { first = made.a.1; second = made.b.1; first_is = first; second_is = second; order = less; close = made.close })
          | inr more ↦
              let apart : made.a.0 ≢ made.b.0 = made.apart in
              let less : made.b.0 < made.a.0 = omega arith in
              let is : pair ≡ (made.b.0, made.a.0) = made.is ∙ pair_of-comm made.a made.b ∙ pair_of-less made.b made.a less in
              rw is (record {
                first = made.b.1;
                second = made.a.1;
                first_is = second;
                second_is = first;
                order = less;
                close = is_close-comm reach made.b.1 made.a.1 ∙ made.close;
              })
        ]

    to : (pair : ℕ × ℕ) → IsClosePair reach rects pair → Contains (rows_of reach moved) pair
    to pair close =
        let a : Contains moved (pair.0, close.first) = Contains-permutation (enumerate_from 0 rects) moved _ order
        (numbered_at 0 rects pair.0 pair.0 close.first close.first_is (omega arith)) in
        let b : Contains moved (pair.1, close.second) = Contains-permutation (enumerate_from 0 rects) moved _ order
        (numbered_at 0 rects pair.1 pair.1 close.second close.second_is (omega arith)) in
        let less : pair.0 < pair.1 = close.order in
        let apart : pair.0 ≢ pair.1 = omega arith in
        subst (λ (p : ℕ × ℕ). Contains (rows_of reach moved) p) (pair_of-less (pair.0, close.first) (pair.1, close.second) less)
        (rows_contain reach moved (pair.0, close.first) (pair.1, close.second) a b apart close.close)
