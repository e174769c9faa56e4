use Rattle.std.proofs.Common.{◌≡◌, ℕ, ◌-◌, arith, ◌≤◌, false, nat_lt, Bool, true, ◌||◌, refl, if◌then◌else◌, ◌&&◌, not, ◌≢◌, ◌<◌, eqb, inl, inr, leb, suc, sym, ◌∙◌, leb-false, ap, ◌⊎◌}
use Rattle.std.proofs.lemmas.Bool.Decides.{nat_tests}
use Rattle.std.specs.Prelude.{nat_eq, nat_le}
use Rattle.std.proofs.lemmas.Bool.{eq-eqb, eqb-false, leb-true, le-leb, lt-leb, cases_Bool, cases_eq, ne_eqb}
use Rattle.std.specs.Ordering.{nat_cmp, is_lt}
use Rattle.std.specs.Cmp.{nat_cmp_is}
use Rattle.std.specs.declared.cmp.Ordering.TheVariants.{Equal, Greater}

pub nat_eq-flips : (x y : ℕ) → nat_eq x y ≡ nat_eq y x
nat_eq-flips x y = grind (arith, nat_tests)

pub nat_lt-end : (a b : ℕ) → nat_lt a b ≡ false → a ≤ b → a ≡ b
nat_lt-end a b is few = grind (arith, nat_tests)

-- the parts of an "or" that is false
pub or-first-false : (a b : Bool) → (a || b) ≡ false → a ≡ false
or-first-false true b h = h
or-first-false false b h = refl

pub or-second-false : (a b : Bool) → (a || b) ≡ false → b ≡ false
or-second-false true b h = cc
or-second-false false b h = h

pub or-false : (x : Bool) → (x || false) ≡ x
or-false true = refl
or-false false = refl

pub not-and : (same t : Bool) → (not same && t) ≡ (if same then false else t)
not-and true t = refl
not-and false t = refl

pub nat_eq-itself : (n : ℕ) → nat_eq n n ≡ true
nat_eq-itself n = grind (arith, nat_tests)

pub nat_eq-equal : (a b : ℕ) → nat_eq a b ≡ true → a ≡ b
nat_eq-equal a b test = grind (arith, nat_tests)

pub nat_eq-differ : (a b : ℕ) → nat_eq a b ≡ false → a ≢ b
nat_eq-differ a b test = grind (arith, nat_tests)

pub nat_eq-true : (n m : ℕ) → n ≡ m → nat_eq n m ≡ true
nat_eq-true n m h = grind (arith, nat_tests)

pub nat_eq-false : (n m : ℕ) → n ≢ m → nat_eq n m ≡ false
nat_eq-false n m h = grind (arith, nat_tests)

pub nat_lt-above : (m n : ℕ) → nat_lt m n ≡ true → m < n
nat_lt-above m n test = grind (arith, nat_tests)

pub eqb-flips : (a b : ℕ) → eqb a b ≡ eqb b a
eqb-flips a b = grind (arith, nat_tests)

pub eqb-itself : (a : ℕ) → eqb a a ≡ true
eqb-itself a = eq-eqb a a refl

-- cells whose widths are found equal are of one width
pub nat_eq-alike : (m n x y : ℕ) → m ≡ x → n ≡ y → nat_eq m n ≡ true → x ≡ y
nat_eq-alike m n x y one two test = grind (arith, nat_tests)

pub positive-test : (n : ℕ) → 0 < n → not (eqb n 0) ≡ true
positive-test n some = grind (arith, nat_tests)

pub test-positive : (n : ℕ) → not (eqb n 0) ≡ true → 0 < n
test-positive n is = grind (arith, nat_tests)

pub eqb-positive : (n : ℕ) → eqb n 0 ≡ false → 0 < n
eqb-positive n some = let other = eqb-false n 0 some in omega (arith, other)

-- what is in front stays in front when more stands among them
pub leb-suc : (a b : ℕ) → leb (suc a) (suc b) ≡ leb a b
leb-suc a b = elim (cases_Bool (leb a b)) [
  | inl is ↦ let less = leb-true a b is in le-leb (suc a) (suc b) (omega (arith, less)) ∙ sym is
  | inr is ↦ let more = leb-false a b is in lt-leb (suc a) (suc b) (omega (arith, more)) ∙ sym is
]

pub cmp-not-less : (a b : ℕ) → b ≤ a → is_lt (nat_cmp a b) ≡ false
cmp-not-less a b order = elim (cases_eq a b) [
  | inl same ↦ ap is_lt (sym (nat_cmp_is a b Equal same))
  | inr other ↦ let above : b < a = omega (arith, order, other) in ap is_lt (sym (nat_cmp_is a b Greater above))
]

-- two places are one or not
pub pair-decided : (r s k p : ℕ) → ((r ≡ s) × (k ≡ p)) ⊎ ((r ≡ s) × (k ≡ p) → ⊥)
pair-decided r s k p = by (nat_eq r s) refl (nat_eq k p) refl
  where
    by : (b : Bool) → nat_eq r s ≡ b → (c : Bool) → nat_eq k p ≡ c → ((r ≡ s) × (k ≡ p)) ⊎ ((r ≡ s) × (k ≡ p) → ⊥)
    by true one true two = inl (grind (arith, nat_tests), grind (arith, nat_tests))
    by true one false two = inr (λ h. no k p h.1 two)
      where
        no : (m n : ℕ) → m ≡ n → nat_eq m n ≡ false → ⊥
        no m n h test = grind (arith, nat_tests)
    by false one c two = inr (λ h. no r s h.0 one)
      where
        no : (m n : ℕ) → m ≡ n → nat_eq m n ≡ false → ⊥
        no m n h test = grind (arith, nat_tests)

-- a place is in a reach or not
pub inside-decided : (row from to r k : ℕ) → ((r ≡ row) × (from ≤ k) × (k < to)) ⊎ ((r ≡ row) × (from ≤ k) × (k < to) → ⊥)
inside-decided row from to r k = split (nat_eq r row) refl (nat_le from k) refl (nat_lt k to) refl
  where
    split : (a : Bool) → nat_eq r row ≡ a → (b : Bool) → nat_le from k ≡ b → (e : Bool) → nat_lt k to ≡ e
        → ((r ≡ row) × (from ≤ k) × (k < to)) ⊎ ((r ≡ row) × (from ≤ k) × (k < to) → ⊥)
    split true one true two true three = inl (grind (arith, nat_tests), grind (arith, nat_tests), grind (arith, nat_tests))
    split false one b two e three = inr (λ h. no r row h.0 one)
      where
        no : (m n : ℕ) → m ≡ n → nat_eq m n ≡ false → ⊥
        no m n h test = grind (arith, nat_tests)
    split true one false two e three = inr (λ h. no from k h.1 two)
      where
        no : (m n : ℕ) → m ≤ n → nat_le m n ≡ false → ⊥
        no m n h test = grind (arith, nat_tests)
    split true one true two false three = inr (λ h. no k to h.2 three)
      where
        no : (m n : ℕ) → m < n → nat_lt m n ≡ false → ⊥
        no m n h test = grind (arith, nat_tests)

pub equal_or_not : (i j : ℕ) → (i ≡ j) ⊎ (i ≢ j)
equal_or_not i j = grind arith

pub eqb-agree : (a b n m : ℕ) → (a ≡ b → n ≡ m) → (n ≡ m → a ≡ b) → eqb a b ≡ eqb n m
eqb-agree a b n m there back =
    elim (cases_eq a b) [
      | inl same ↦ eq-eqb a b same ∙ sym (eq-eqb n m (there same))
      | inr other ↦ ne_eqb a b other ∙ sym (ne_eqb n m (λ same. other (back same)))
    ]

pub nat_lt-not-above : (most n : ℕ) → n ≤ most → nat_lt most n ≡ false
nat_lt-not-above most n most_n = grind (arith, nat_tests)

pub nat_lt-is-above : (most n : ℕ) → most < n → nat_lt most n ≡ true
nat_lt-is-above most n more = grind (arith, nat_tests)

pub nat_lt-is-within : (most n : ℕ) → nat_lt most n ≡ false → n ≤ most
nat_lt-is-within most n above = grind (arith, nat_tests)
