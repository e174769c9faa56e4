use Rattle.std.proofs.Common.{◌≡◌, ◌≤◌, ◌<◌, ℕ, zero, suc, Bool, true, false, if◌then◌else◌, Option, None, Some, below_more, refl, subst, sym, arith}
use Rattle.std.proofs.lemmas.Bool.Decides.{nat_tests}
use Rattle.std.specs.Prelude.{nat_lt}
use Rattle.placement_tries.specs.Taking.{IsFirstLeast, first_least, is_less}

less-itself : (a : Option ℕ) → is_less a a ≡ false
less-itself (Some a) = grind (arith, nat_tests)
less-itself None = refl

less-back : (a b : Option ℕ) → is_less a b ≡ true → is_less b a ≡ false
less-back (Some a) (Some b) less = grind (arith, nat_tests)
less-back (Some a) None less = refl
less-back None b less = cc

-- less than one that is no more
less-through : (a b c : Option ℕ) → is_less a b ≡ true → is_less c b ≡ false → is_less a c ≡ true
less-through (Some a) (Some b) (Some c) less other = grind (arith, nat_tests)
less-through (Some a) (Some b) None less other = refl
less-through (Some a) None (Some c) less other = cc
less-through (Some a) None None less other = refl
less-through None b c less other = cc

module _ (estimate : ℕ → Option ℕ) where
  one-more : (n k : ℕ) (less : Bool) → is_less (estimate n) (estimate k) ≡ less → IsFirstLeast estimate n k → IsFirstLeast estimate (suc n) (if less then n else k)
  one-more n k true is before = record {
    within = omega arith;
    least = λ number within. below_more (λ (m : ℕ). is_less (estimate m) (estimate n) ≡ false) n
        (λ m less. less-back (estimate n) (estimate m) (less-through (estimate n) (estimate k) (estimate m) is (before.least m less))) (less-itself (estimate n))
        number (omega (arith, within));
    first = λ number within. less-through (estimate n) (estimate k) (estimate number) is (before.least number within);
  }
  one-more n k false is before = record {
    within = let in_front : k < n = before.within in omega arith;
    least = λ number within. below_more (λ (m : ℕ). is_less (estimate m) (estimate k) ≡ false) n before.least is number (omega (arith, within));
    first = before.first;
  }

  alone : IsFirstLeast estimate 1 0
  alone = record {
    within = omega arith;
    least = λ number within.
        let same : number ≡ 0 = omega (arith, within) in subst (λ (m : ℕ). is_less (estimate m) (estimate 0) ≡ false) (sym same) (less-itself (estimate 0));
    first = λ number within. absurd (omega (arith, within));
  }

  -- the first of least estimate of one try or more is what it is called
  first-least : (n : ℕ) → IsFirstLeast estimate (suc n) (first_least estimate (suc n))
  first-least zero = by (is_less (estimate 0) (estimate 0))
    where
      by : (less : Bool) → IsFirstLeast estimate 1 (if less then 0 else 0)
      by true = alone
      by false = alone
  first-least (suc n) = one-more (suc n) (first_least estimate (suc n)) _ refl (first-least n)

pub first-least-of : (estimate : ℕ → Option ℕ) (tries : ℕ) → 1 ≤ tries → IsFirstLeast estimate tries (first_least estimate tries)
first-least-of estimate zero some = absurd (omega arith)
first-least-of estimate (suc n) some = first-least estimate n
