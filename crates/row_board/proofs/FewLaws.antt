use Rattle.std.proofs.Common.{◌≡◌, ◌<◌, ◌≤◌, ℕ, ◌+◌, ◌-◌, List, [], ◌∷◌, length, get_or, false, cond, refl, arith, min, max}
use Rattle.std.proofs.lemmas.Bool.Decides.{nat_tests}
use Rattle.std.proofs.lemmas.List.Sums.{sum_by-cons}
use Rattle.std.specs.List.{count_by}
use Rattle.std.specs.Prelude.{nat_eq, nat_lt}
use Rattle.row_board.specs.Extreme.{IsExtreme}
use Rattle.row_board.specs.Few.{few_count, few_of}
use Rattle.row_board.specs.declared.extreme.Side.TheVariants.{Low, High}

-- the least and the greatest of four numbers are one of them
least-there : (a b c d m : ℕ) → m ≡ min (min (min a b) c) d → 0 < cond (nat_eq a m) 1 0 + cond (nat_eq b m) 1 0 + cond (nat_eq c m) 1 0 + cond (nat_eq d m) 1 0
least-there a b c d m is = grind (arith, nat_tests)

greatest-there : (a b c d m : ℕ) → m ≡ max (max (max a b) c) d → 0 < cond (nat_eq a m) 1 0 + cond (nat_eq b m) 1 0 + cond (nat_eq c m) 1 0 + cond (nat_eq d m) 1 0
greatest-there a b c d m is = grind (arith, nat_tests)

-- what is not below a bound, and what is not above one
not-below : (x m : ℕ) → m ≤ x → nat_lt x m ≡ false
not-below x m low = grind (arith, nat_tests)

not-above : (x m : ℕ) → x ≤ m → nat_lt m x ≡ false
not-above x m high = grind (arith, nat_tests)

-- how often a number stands in a short list
count-next : (m n : ℕ) (ns : List ℕ) → count_by (λ (k : ℕ). nat_eq k m) (n ∷ ns) ≡ cond (nat_eq n m) 1 0 + count_by (λ (k : ℕ). nat_eq k m) ns
count-next m n ns = sum_by-cons (λ (k : ℕ). cond (nat_eq k m) 1 0) n ns

count-end : (m : ℕ) → count_by (λ (k : ℕ). nat_eq k m) [] ≡ 0
count-end m = refl

-- as few numbers count it
few-counted : (ns : List ℕ) (m : ℕ) → 0 < length ns → length ns ≤ 4 → few_count (few_of ns) m ≡ count_by (λ (k : ℕ). nat_eq k m) ns
few-counted [] m some few = absurd (omega (arith, some))
few-counted (a ∷ []) m some few = omega (arith, count-next m a ([]), count-end m)
few-counted (a ∷ b ∷ []) m some few = omega (arith, count-next m a (b ∷ []), count-next m b ([]), count-end m)
few-counted (a ∷ b ∷ c ∷ []) m some few = omega (arith, count-next m a (b ∷ c ∷ []), count-next m b (c ∷ []), count-next m c ([]), count-end m)
few-counted (a ∷ b ∷ c ∷ d ∷ []) m some few = omega (arith, count-next m a (b ∷ c ∷ d ∷ []), count-next m b (c ∷ d ∷ []), count-next m c (d ∷ []), count-next m d ([]), count-end m)
few-counted (a ∷ b ∷ c ∷ d ∷ e ∷ more) m some few = absurd (omega (arith, few))

-- the least of few numbers, with how many of them it is
pub few-least : (ns : List ℕ) (m : ℕ) → 0 < length ns → length ns ≤ 4 → m ≡ min (min (min (few_of ns).first (few_of ns).second) (few_of ns).third) (few_of ns).fourth
    → IsExtreme Low ns (record { at = m; count = few_count (few_of ns) m })
few-least [] m some few is = absurd (omega (arith, some))
few-least (a ∷ []) m some few is = record {
  within = (not-below a m (omega (arith, is)), tt);
  count = few-counted (a ∷ []) m some few;
  some = λ long. omega (arith, least-there a a a a m is);
}
few-least (a ∷ b ∷ []) m some few is = record {
  within = (not-below a m (omega (arith, is)), (not-below b m (omega (arith, is)), tt));
  count = few-counted (a ∷ b ∷ []) m some few;
  some = λ long. omega (arith, least-there a b b b m is);
}
few-least (a ∷ b ∷ c ∷ []) m some few is = record {
  within = (not-below a m (omega (arith, is)), (not-below b m (omega (arith, is)), (not-below c m (omega (arith, is)), tt)));
  count = few-counted (a ∷ b ∷ c ∷ []) m some few;
  some = λ long. omega (arith, least-there a b c c m is);
}
few-least (a ∷ b ∷ c ∷ d ∷ []) m some few is = record {
  within = (not-below a m (omega (arith, is)), (not-below b m (omega (arith, is)), (not-below c m (omega (arith, is)), (not-below d m (omega (arith, is)), tt))));
  count = few-counted (a ∷ b ∷ c ∷ d ∷ []) m some few;
  some = λ long. omega (arith, least-there a b c d m is);
}
few-least (a ∷ b ∷ c ∷ d ∷ e ∷ more) m some few is = absurd (omega (arith, few))

-- the greatest of few numbers, with how many of them it is
pub few-greatest : (ns : List ℕ) (m : ℕ) → 0 < length ns → length ns ≤ 4 → m ≡ max (max (max (few_of ns).first (few_of ns).second) (few_of ns).third) (few_of ns).fourth
    → IsExtreme High ns (record { at = m; count = few_count (few_of ns) m })
few-greatest [] m some few is = absurd (omega (arith, some))
few-greatest (a ∷ []) m some few is = record {
  within = (not-above a m (omega (arith, is)), tt);
  count = few-counted (a ∷ []) m some few;
  some = λ long. omega (arith, greatest-there a a a a m is);
}
few-greatest (a ∷ b ∷ []) m some few is = record {
  within = (not-above a m (omega (arith, is)), (not-above b m (omega (arith, is)), tt));
  count = few-counted (a ∷ b ∷ []) m some few;
  some = λ long. omega (arith, greatest-there a b b b m is);
}
few-greatest (a ∷ b ∷ c ∷ []) m some few is = record {
  within = (not-above a m (omega (arith, is)), (not-above b m (omega (arith, is)), (not-above c m (omega (arith, is)), tt)));
  count = few-counted (a ∷ b ∷ c ∷ []) m some few;
  some = λ long. omega (arith, greatest-there a b c c m is);
}
few-greatest (a ∷ b ∷ c ∷ d ∷ []) m some few is = record {
  within = (not-above a m (omega (arith, is)), (not-above b m (omega (arith, is)), (not-above c m (omega (arith, is)), (not-above d m (omega (arith, is)), tt))));
  count = few-counted (a ∷ b ∷ c ∷ d ∷ []) m some few;
  some = λ long. omega (arith, greatest-there a b c d m is);
}
few-greatest (a ∷ b ∷ c ∷ d ∷ e ∷ more) m some few is = absurd (omega (arith, few))

-- few numbers as they are read
pub few-read : (ns : List ℕ) → 0 < length ns → length ns ≤ 4
    → record { first = get_or ns 0 0; second = get_or ns (min (length ns - 1) 1) 0; third = get_or ns (min (length ns - 1) 2) 0; fourth = get_or ns (min (length ns - 1) 3) 0; lacking = 3 - (length ns - 1) } ≡ few_of ns
few-read [] some few = absurd (omega (arith, some))
few-read (a ∷ []) some few = refl
few-read (a ∷ b ∷ []) some few = refl
few-read (a ∷ b ∷ c ∷ []) some few = refl
few-read (a ∷ b ∷ c ∷ d ∷ []) some few = refl
few-read (a ∷ b ∷ c ∷ d ∷ e ∷ more) some few = absurd (omega (arith, few))
