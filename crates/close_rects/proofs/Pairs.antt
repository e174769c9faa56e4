use Rattle.std.proofs.Common.{◌≡◌, ◌≢◌, ◌<◌, min, max, ℕ, ℤ, List, [], ◌∷◌, Bool, true, false, if◌then◌else◌, refl, ap, sym, subst, ◌∙◌, inl, inr, arith, nat_eq}
use Rattle.std.specs.Prelude.{Contains}
use Rattle.std.specs.List.{IsDistinct, AllByRecursion}
use Rattle.std.proofs.lemmas.Map.Keys.{IsDistinct-head, IsDistinct-tail}
use Rattle.std.proofs.lemmas.Bool.{eq-eqb}
use Rattle.geom_core.specs.Extent.{Extent}
use Rattle.close_rects.specs.ClosePairs.{is_close}
use Rattle.close_rects.specs.Rests.{pair_of, row_of, rows_of}
use Rattle.close_rects.proofs.Closeness.{is_close-comm}
use Rattle.std_laws.proofs.Members.{member-head, member-tail, member-cases, member-none}
use Rattle.std.proofs.lemmas.List.Elements.{Contains-append_cases, Contains-append_left, Contains-append_right}

-- two numbered rectangles have one number
abbrev pub same_number : ℕ × Extent → ℕ × Extent → Bool
same_number a b = nat_eq a.0 b.0

-- the second rectangle of a pair of the first
abbrev pub IsSecond : ℤ → ℕ × Extent → List (ℕ × Extent) → ℕ × ℕ → Type 0
IsSecond reach a rects pair = (b : ℕ × Extent) × Contains rects b × (is_close reach a.1 b.1 ≡ true) × (pair ≡ pair_of a b)

-- what stands behind the pairs of one rectangle
pub row_among : (reach : ℤ) (a : ℕ × Extent) (rects : List (ℕ × Extent)) (pair : ℕ × ℕ) → Contains (row_of reach a rects) pair
    → IsSecond reach a rects pair
row_among reach a [] pair among = absurd (member-none pair among)
row_among reach a (b ∷ rects) pair among = cases (row_among reach a rects pair) (is_close reach a.1 b.1) refl among
  where
    later : (Contains (row_of reach a rects) pair → IsSecond reach a rects pair) → Contains (row_of reach a rects) pair
        → IsSecond reach a (b ∷ rects) pair
    later find rest = let found : IsSecond reach a rects pair = find rest in (found.0, member-tail b rects found.0 found.1, found.2, found.3)

    cases : (Contains (row_of reach a rects) pair → IsSecond reach a rects pair) → (t : Bool) → is_close reach a.1 b.1 ≡ t
        → Contains (if t then pair_of a b ∷ row_of reach a rects else row_of reach a rects) pair → IsSecond reach a (b ∷ rects) pair
    cases find true close rest = elim (member-cases (pair_of a b) (row_of reach a rects) pair rest) [
      | inl same ↦ (b, member-head b rects, close, sym same)
      | inr after ↦ later find after
    ]
    cases find false far rest = later find rest

pub row_contains : (reach : ℤ) (a b : ℕ × Extent) (rects : List (ℕ × Extent)) → Contains rects b → is_close reach a.1 b.1 ≡ true
    → Contains (row_of reach a rects) (pair_of a b)
row_contains reach a b [] among close = absurd (member-none b among)
row_contains reach a b (c ∷ rects) among close = elim (member-cases c rects b among) [
  | inl same ↦
      let near : is_close reach a.1 c.1 ≡ true = ap (λ (d : ℕ × Extent). is_close reach a.1 d.1) same ∙ close in
      subst (λ t. Contains (if t then pair_of a c ∷ row_of reach a rects else row_of reach a rects) (pair_of a b)) (sym near)
      (subst (λ (d : ℕ × Extent). Contains (pair_of a c ∷ row_of reach a rects) (pair_of a d)) same (member-head (pair_of a c) (row_of reach a rects)))
  | inr later ↦ further (is_close reach a.1 c.1) (row_contains reach a b rects later close)
]
  where
    further : (t : Bool) → Contains (row_of reach a rects) (pair_of a b)
        → Contains (if t then pair_of a c ∷ row_of reach a rects else row_of reach a rects) (pair_of a b)
    further true rest = member-tail (pair_of a c) (row_of reach a rects) (pair_of a b) rest
    further false rest = rest

-- no later rectangle has the number of an earlier one
abbrev pub HaveNumbers : List (ℕ × Extent) → Type 0
HaveNumbers rects = IsDistinct same_number rects

pub not_here : (a : ℕ × Extent) (rects : List (ℕ × Extent)) → AllByRecursion (λ b. same_number a b ≡ false) rects → (b : ℕ × Extent)
    → Contains rects b → a.0 ≢ b.0
not_here a [] none b among = absurd (member-none b among)
not_here a (c ∷ rects) none b among = elim (member-cases c rects b among) [
  | inl same ↦ λ equal.
      let apart : nat_eq a.0 b.0 ≡ false = subst (λ (d : ℕ × Extent). nat_eq a.0 d.0 ≡ false) same none.0 in
      let one : nat_eq a.0 b.0 ≡ true = eq-eqb a.0 b.0 equal in
      cc
  | inr later ↦ not_here a rects none.1 b later
]

-- two rectangles of a list with different numbers that are close, behind a pair
pub record IsMade (reach : ℤ) (rects : List (ℕ × Extent)) (pair : ℕ × ℕ) : Type 0 where
  pub a : ℕ × Extent
  pub b : ℕ × Extent
  pub a_among : Contains rects a
  pub b_among : Contains rects b
  pub apart : a.0 ≢ b.0
  pub close : is_close reach a.1 b.1 ≡ true
  pub is : pair ≡ pair_of a b

pub rows_among : (reach : ℤ) (rects : List (ℕ × Extent)) (pair : ℕ × ℕ) → HaveNumbers rects → Contains (rows_of reach rects) pair
    → IsMade reach rects pair
rows_among reach [] pair numbers among = absurd (member-none pair among)
rows_among reach (a ∷ rects) pair numbers among = elim (Contains-append_cases (row_of reach a rects) (rows_of reach rects) pair among) [
  | inl here ↦
      let found : IsSecond reach a rects pair = row_among reach a rects pair here in
      record {
        a = a;
        b = found.0;
        a_among = member-head a rects;
        b_among = member-tail a rects found.0 found.1;
        apart = not_here a rects (IsDistinct-head same_number a rects numbers) found.0 found.1;
        close = found.2;
        is = found.3;
      }
  | inr later ↦
      let made : IsMade reach rects pair = rows_among reach rects pair (IsDistinct-tail same_number a rects numbers) later in
      record {
        a = made.a;
        b = made.b;
        a_among = member-tail a rects made.a made.a_among;
        b_among = member-tail a rects made.b made.b_among;
        apart = made.apart;
        close = made.close;
        is = made.is;
      }
]

pub pair_of-comm : (a b : ℕ × Extent) → pair_of a b ≡ pair_of b a
pair_of-comm a b =
    let least : min a.0 b.0 ≡ min b.0 a.0 = omega arith in
    let greatest : max a.0 b.0 ≡ max b.0 a.0 = omega arith in
    cc

pub pair_of-less : (a b : ℕ × Extent) → a.0 < b.0 → pair_of a b ≡ (a.0, b.0)
pair_of-less a b less =
    let least : min a.0 b.0 ≡ a.0 = omega arith in
    let greatest : max a.0 b.0 ≡ b.0 = omega arith in
    cc

pub rows_contain : (reach : ℤ) (rects : List (ℕ × Extent)) (a b : ℕ × Extent) → Contains rects a → Contains rects b → a.0 ≢ b.0
    → is_close reach a.1 b.1 ≡ true → Contains (rows_of reach rects) (pair_of a b)
rows_contain reach [] a b a_among b_among apart close = absurd (member-none a a_among)
rows_contain reach (c ∷ rects) a b a_among b_among apart close =
    elim (member-cases c rects a a_among) [
      | inl a_first ↦ elim (member-cases c rects b b_among) [
        | inl b_first ↦ let one : a ≡ b = cc in absurd (apart (ap (λ (p : ℕ × Extent). p.0) one))
        | inr b_later ↦
            let near : is_close reach c.1 b.1 ≡ true = ap (λ (d : ℕ × Extent). is_close reach d.1 b.1) a_first ∙ close in
            subst (λ (d : ℕ × Extent). Contains (rows_of reach (c ∷ rects)) (pair_of d b)) a_first
            (Contains-append_left (row_of reach c rects) (rows_of reach rects) (pair_of c b) (row_contains reach c b rects b_later near))
      ]
      | inr a_later ↦ elim (member-cases c rects b b_among) [
        | inl b_first ↦
            let near : is_close reach c.1 a.1 ≡ true =
            ap (λ (d : ℕ × Extent). is_close reach d.1 a.1) b_first ∙ is_close-comm reach b.1 a.1 ∙ close in
            subst (λ (d : ℕ × Extent). Contains (rows_of reach (c ∷ rects)) (pair_of a d)) b_first
            (subst (λ (p : ℕ × ℕ). Contains (rows_of reach (c ∷ rects)) p) (pair_of-comm c a)
            (Contains-append_left (row_of reach c rects) (rows_of reach rects) (pair_of c a) (row_contains reach c a rects a_later near)))
        | inr b_later ↦ Contains-append_right (row_of reach c rects) (rows_of reach rects) (pair_of a b)
            (rows_contain reach rects a b a_later b_later apart close)
      ]
    ]
