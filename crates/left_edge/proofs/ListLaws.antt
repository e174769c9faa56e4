use Rattle.std.proofs.Common.{◌≡◌, ◌<◌, ◌≤◌, false, eqb, ℕ, zero, suc, List, [], ◌∷◌, inl, inr, refl, sym, ap, subst, ◌∙◌, arith, length, max, Contains}
use Rattle.std.proofs.lemmas.Bool.{cases_eq, eqb-true, eqb-false, ne_eqb}
use Rattle.std.proofs.lemmas.Map.Steps.{length-le_from_distinct_below}
use Rattle.std.proofs.lemmas.Map.Views.{Contains-from_any}
use Rattle.std.specs.List.{IsDistinct, AllByRecursion}
use Rattle.channel_model.specs.Density.{greatest}
use Rattle.std_laws.proofs.Members.{member-head, member-tail, member-cases}

-- a function's values do not pass the greatest of them, and where that is not 0 it is one of them
pub greatest-bound : (f : ℕ → ℕ) (n k : ℕ) → k < n → f k ≤ greatest f n
greatest-bound f zero k below = absurd (omega arith)
greatest-bound f (suc n) k below =
    elim (cases_eq k n) [
      | inl same ↦ rw same (omega arith)
      | inr other ↦ let rest = greatest-bound f n k (omega arith) in omega arith
    ]

pub greatest-reached : (f : ℕ → ℕ) (n : ℕ) → 0 < greatest f n → (k : ℕ) × (k < n) × (f k ≡ greatest f n)
greatest-reached f zero some = absurd (omega arith)
greatest-reached f (suc n) some =
    elim (cases_eq (max (greatest f n) (f n)) (f n)) [
      | inl last ↦ (n, omega arith, sym last)
      | inr other ↦
          let is : max (greatest f n) (f n) ≡ greatest f n = omega arith in
          let before = greatest-reached f n (omega arith) in
          (before.0, omega (arith, before.1), before.2 ∙ sym is)
    ]

-- a number for each of different ones, and no number for two, are enough numbers
module _ (R : ℕ → ℕ → Type 0) (n : ℕ) (one : (x y k : ℕ) → R x k → R y k → x ≡ y) where
  numbers : (xs : List ℕ) → ((x : ℕ) → Contains xs x → (k : ℕ) × (k < n) × R x k) → List ℕ
  numbers [] each = []
  numbers (x ∷ xs) each = (each x (member-head x xs)).0 ∷ numbers xs (λ y there. each y (member-tail x xs y there))

  length-numbers : (xs : List ℕ) (each : (x : ℕ) → Contains xs x → (k : ℕ) × (k < n) × R x k) → length (numbers xs each) ≡ length xs
  unfolding numbers
  length-numbers [] each = refl
  length-numbers (x ∷ xs) each = ap suc (length-numbers xs (λ y there. each y (member-tail x xs y there)))

  owner : (xs : List ℕ) (each : (x : ℕ) → Contains xs x → (k : ℕ) × (k < n) × R x k) (k : ℕ) → Contains (numbers xs each) k
      → (x : ℕ) × Contains xs x × (k < n) × R x k
  unfolding numbers
  owner [] each k there = absurd (omega (arith, there.1))
  owner (x ∷ xs) each k there =
      let rest = λ (y : ℕ) (there : Contains xs y). each y (member-tail x xs y there) in
      let head = each x (member-head x xs) in
      elim (member-cases head.0 (numbers xs rest) k there) [
        | inl here ↦ (x, member-head x xs, rw here at head.1, rw here at head.2)
        | inr later ↦ let found = owner xs rest k later in (found.0, member-tail x xs found.0 found.1, found.2, found.3)
      ]

  distinct_numbers : (xs : List ℕ) (each : (x : ℕ) → Contains xs x → (k : ℕ) × (k < n) × R x k) → IsDistinct eqb xs → IsDistinct eqb (numbers xs each)
  unfolding numbers IsDistinct
  distinct_numbers [] each different = tt
  distinct_numbers (x ∷ xs) each different =
      let rest = λ (y : ℕ) (there : Contains xs y). each y (member-tail x xs y there) in
      let head = each x (member-head x xs) in (
        apart (numbers xs rest) (λ k there.
            let found = owner xs rest k there in
            ne_eqb head.0 k (λ same.
            let twice : x ≡ found.0 = one x found.0 k (rw same at head.2) found.3 in
            not_member xs x different.0 (subst (Contains xs) (sym twice) found.1))),
        distinct_numbers xs rest different.1,
      )
    where
      apart : (ks : List ℕ) → ((k : ℕ) → Contains ks k → eqb (each x (member-head x xs)).0 k ≡ false)
          → AllByRecursion (λ k. eqb (each x (member-head x xs)).0 k ≡ false) ks
      apart [] h = tt
      apart (k ∷ ks) h = (h k (member-head k ks), apart ks (λ j there. h j (member-tail k ks j there)))

      not_member : (ys : List ℕ) (y : ℕ) → AllByRecursion (λ z. eqb y z ≡ false) ys → Contains ys y → ⊥
      not_member [] y all there = omega (arith, there.1)
      not_member (z ∷ ys) y all there =
          elim (member-cases z ys y there) [
            | inl same ↦ eqb-false y z all.0 (sym same)
            | inr later ↦ not_member ys y all.1 later
          ]

  pub enough : (xs : List ℕ) → ((x : ℕ) → Contains xs x → (k : ℕ) × (k < n) × R x k) → IsDistinct eqb xs → length xs ≤ n
  enough xs each different =
      subst (λ m. m ≤ n) (length-numbers xs each)
      (length-le_from_distinct_below (numbers xs each) n (distinct_numbers xs each different)
      (λ k there. (owner xs each k (Contains-from_any (λ x y same. eqb-true x y same) k (numbers xs each) there)).2))
