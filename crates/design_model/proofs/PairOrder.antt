use Rattle.std.proofs.Common.{◌≡◌, ◌≢◌, ◌<◌, ◌≤◌, ◌⊎◌, ℕ, zero, suc, ◌+◌, List, [], ◌∷◌, length, map, Bool, true, false, cond, eqb, nat_lt, ◌&&◌, ◌||◌, Option, Some, None, refl, ap, sym, ◌∙◌, subst, inl, inr, arith}
use Rattle.std.proofs.lemmas.Bool.Decides.{nat_tests}
use Rattle.std.proofs.lemmas.List.{length-map}
use Rattle.std.proofs.lemmas.List.Sums.{prefix_len-le-length}
use Rattle.std.proofs.lemmas.Option.{slice_get-map, same_Some}
use Rattle.std.specs.List.{AllByRecursion, prefix_len, slice_get}
use Rattle.std.specs.Option.{option_map}
use Rattle.design_model.specs.PinOrder.{IsAscending, is_less, pin_pair, pins_before}
use Rattle.design_model.specs.declared.design.Pin.{Pin}
use Rattle.std_laws.proofs.Every.{every-get, every-weaker}
use Rattle.std_laws.proofs.Numbers.{one-more}

-- what it is for a pair to be less than another
pub less-is : (a b : ℕ × ℕ) → is_less a b ≡ true → (a.0 < b.0) ⊎ ((a.0 ≡ b.0) × (a.1 < b.1))
less-is a b = by (nat_lt a.0 b.0) (eqb a.0 b.0) (nat_lt a.1 b.1) refl refl refl
  where
    lower : (m n : ℕ) → nat_lt m n ≡ true → m < n
    lower m n e = grind (arith, nat_tests)

    equal : (m n : ℕ) → eqb m n ≡ true → m ≡ n
    equal m n e = grind (arith, nat_tests)

    by : (p q r : Bool) → nat_lt a.0 b.0 ≡ p → eqb a.0 b.0 ≡ q → nat_lt a.1 b.1 ≡ r → (p || (q && r)) ≡ true → (a.0 < b.0) ⊎ ((a.0 ≡ b.0) × (a.1 < b.1))
    by true q r is_p is_q is_r h = inl (lower a.0 b.0 is_p)
    by false true true is_p is_q is_r h = inr (equal a.0 b.0 is_q, lower a.1 b.1 is_r)
    by false true false is_p is_q is_r h = absurd (no h)
      where
        no : false ≡ true → ⊥
        no e = cc
    by false false r is_p is_q is_r h = absurd (no h)
      where
        no : false ≡ true → ⊥
        no e = cc

pub less-first : (a b : ℕ × ℕ) → a.0 < b.0 → is_less a b ≡ true
less-first a b h = ap (λ (t : Bool). t || (eqb a.0 b.0 && nat_lt a.1 b.1)) (lower a.0 b.0 h)
  where
    lower : (m n : ℕ) → m < n → nat_lt m n ≡ true
    lower m n e = grind (arith, nat_tests)

pub less-second : (a b : ℕ × ℕ) → a.0 ≡ b.0 → a.1 < b.1 → is_less a b ≡ true
less-second a b same h = or_true (nat_lt a.0 b.0) _ (ap (λ (t : Bool). t && nat_lt a.1 b.1) (equal a.0 b.0 same) ∙ lower a.1 b.1 h)
  where
    lower : (m n : ℕ) → m < n → nat_lt m n ≡ true
    lower m n e = grind (arith, nat_tests)

    equal : (m n : ℕ) → m ≡ n → eqb m n ≡ true
    equal m n e = grind (arith, nat_tests)

    or_true : (s t : Bool) → t ≡ true → (s || t) ≡ true
    or_true true t e = refl
    or_true false t e = e

less-trans : (a b c : ℕ × ℕ) → is_less a b ≡ true → is_less b c ≡ true → is_less a c ≡ true
less-trans a b c h k = by (less-is a b h) (less-is b c k)
  where
    by : (a.0 < b.0) ⊎ ((a.0 ≡ b.0) × (a.1 < b.1)) → (b.0 < c.0) ⊎ ((b.0 ≡ c.0) × (b.1 < c.1)) → is_less a c ≡ true
    by (inl x) (inl y) = less-first a c (omega arith)
    by (inl x) (inr y) = less-first a c (omega (arith, y.0))
    by (inr x) (inl y) = less-first a c (omega (arith, x.0))
    by (inr x) (inr y) = less-second a c (x.0 ∙ y.0) (omega (arith, x.1, y.1))

less-self : (a : ℕ × ℕ) → is_less a a ≡ true → ⊥
less-self a h = by (less-is a a h)
  where
    by : (a.0 < a.0) ⊎ ((a.0 ≡ a.0) × (a.1 < a.1)) → ⊥
    by (inl x) = omega (arith, x)
    by (inr x) = omega (arith, x.1)

-- a pair of an ascending list that is less than q is one of those before q
among-before : (q : ℕ × ℕ) (xs : List (ℕ × ℕ)) (m : ℕ) (y : ℕ × ℕ) → IsAscending xs → slice_get xs m ≡ Some y → is_less y q ≡ true
    → m < prefix_len (λ (p : ℕ × ℕ). is_less p q) xs
among-before q [] m y up at less = absurd (no at)
  where
    no : ◌≡◌ {A = Option (ℕ × ℕ)} None (Some y) → ⊥
    no e = cc
among-before q (x ∷ xs) zero y up at less =
    subst (λ b. 0 < cond b (1 + prefix_len (λ (p : ℕ × ℕ). is_less p q) xs) 0)
    (sym (subst (λ p. is_less p q ≡ true) (sym (same_Some x y at)) less)) (omega arith)
among-before q (x ∷ xs) (suc m) y up at less =
    subst (λ b. suc m < cond b (1 + prefix_len (λ (p : ℕ × ℕ). is_less p q) xs) 0)
    (sym (less-trans x y q (every-get (λ (p : ℕ × ℕ). is_less x p ≡ true) xs m y up.0 at) less))
    (omega (arith, among-before q xs m y up.1 at less))

-- and one that is not less than q is none of those
past-before : (q : ℕ × ℕ) (xs : List (ℕ × ℕ)) (m : ℕ) (y : ℕ × ℕ) → slice_get xs m ≡ Some y → is_less y q ≡ false
    → prefix_len (λ (p : ℕ × ℕ). is_less p q) xs ≤ m
past-before q [] m y at other = omega arith
past-before q (x ∷ xs) zero y at other =
    subst (λ b. cond b (1 + prefix_len (λ (p : ℕ × ℕ). is_less p q) xs) 0 ≤ 0)
    (sym (subst (λ p. is_less p q ≡ false) (sym (same_Some x y at)) other)) (omega arith)
past-before q (x ∷ xs) (suc m) y at other = by (is_less x q) (past-before q xs m y at other)
  where
    by : (b : Bool) → prefix_len (λ (p : ℕ × ℕ). is_less p q) xs ≤ m → cond b (1 + prefix_len (λ (p : ℕ × ℕ). is_less p q) xs) 0 ≤ suc m
    by true few = omega arith
    by false few = omega arith

-- where no q follows those before q, there is no q
none-is : (q : ℕ × ℕ) (xs : List (ℕ × ℕ)) → IsAscending xs
    → ((y : ℕ × ℕ) → slice_get xs (prefix_len (λ (p : ℕ × ℕ). is_less p q) xs) ≡ Some y → y ≢ q) → AllByRecursion (λ (p : ℕ × ℕ). p ≢ q) xs
none-is q [] up next = tt
none-is q (x ∷ xs) up next = by (is_less x q) refl next (λ next. none-is q xs up.1 next)
  where
    by : (b : Bool) → is_less x q ≡ b
        → ((y : ℕ × ℕ) → slice_get (x ∷ xs) (cond b (1 + prefix_len (λ (p : ℕ × ℕ). is_less p q) xs) 0) ≡ Some y → y ≢ q)
        → (((y : ℕ × ℕ) → slice_get xs (prefix_len (λ (p : ℕ × ℕ). is_less p q) xs) ≡ Some y → y ≢ q) → AllByRecursion (λ (p : ℕ × ℕ). p ≢ q) xs)
        → (x ≢ q) × AllByRecursion (λ (p : ℕ × ℕ). p ≢ q) xs
    by true is next more = (
      λ same. less-self q (subst (λ p. is_less p q ≡ true) same is),
      more (λ y at. next y (ap (slice_get (x ∷ xs)) (one-more (prefix_len (λ (p : ℕ × ℕ). is_less p q) xs)) ∙ at)),
    )
    by false is next more = (
      next x refl,
      every-weaker (λ (p : ℕ × ℕ). is_less x p ≡ true) (λ (p : ℕ × ℕ). p ≢ q)
          (λ p less same. no (sym is ∙ subst (λ r. is_less x r ≡ true) same less)) xs up.0,
    )
      where
        no : false ≡ true → ⊥
        no e = cc

pair-at : (pins : List Pin) (m : ℕ) (p : Pin) → slice_get pins m ≡ Some p → slice_get (map pin_pair pins) m ≡ Some (pin_pair p)
pair-at pins m p at = slice_get-map pin_pair pins m ∙ ap (option_map pin_pair) at

-- a pin of pins in order that is less than a pair stands before it
pub pin-before : (pins : List Pin) (q : ℕ × ℕ) (m : ℕ) (p : Pin) → IsAscending (map pin_pair pins) → slice_get pins m ≡ Some p
    → is_less (pin_pair p) q ≡ true → m < pins_before pins q
unfolding pins_before
pin-before pins q m p up at less = among-before q (map pin_pair pins) m (pin_pair p) up (pair-at pins m p at) less

-- and one that is not less than the pair does not
pub pin-past : (pins : List Pin) (q : ℕ × ℕ) (m : ℕ) (p : Pin) → slice_get pins m ≡ Some p → is_less (pin_pair p) q ≡ false → pins_before pins q ≤ m
unfolding pins_before
pin-past pins q m p at other = past-before q (map pin_pair pins) m (pin_pair p) (pair-at pins m p at) other

-- at most all pins stand before a pair
pub few-before : (pins : List Pin) (q : ℕ × ℕ) → pins_before pins q ≤ length pins
unfolding pins_before
few-before pins q = omega (arith, prefix_len-le-length (λ (p : ℕ × ℕ). is_less p q) (map pin_pair pins), length-map pins pin_pair)

-- where all pins stand before a pair, none is of it
pub none-past : (pins : List Pin) (q : ℕ × ℕ) → IsAscending (map pin_pair pins) → pins_before pins q ≡ length pins
    → AllByRecursion (λ (p : ℕ × ℕ). p ≢ q) (map pin_pair pins)
unfolding pins_before
none-past pins q up all = none-is q (map pin_pair pins) up (λ y at. absurd (no y (ap (slice_get (map pin_pair pins)) (sym (all ∙ sym (length-map pins pin_pair))) ∙ at)))
  where
    past : {X : Type 0} (xs : List X) → slice_get xs (length xs) ≡ None
    past [] = refl
    past (x ∷ xs) = past xs

    no : (y : ℕ × ℕ) → slice_get (map pin_pair pins) (length (map pin_pair pins)) ≡ Some y → ⊥
    no y at = cc (past (map pin_pair pins))

-- and where the first pin that does not stand before it is not of it
pub none-there : (pins : List Pin) (q : ℕ × ℕ) (p : Pin) → IsAscending (map pin_pair pins) → slice_get pins (pins_before pins q) ≡ Some p → pin_pair p ≢ q
    → AllByRecursion (λ (p : ℕ × ℕ). p ≢ q) (map pin_pair pins)
unfolding pins_before
none-there pins q p up at other =
    none-is q (map pin_pair pins) up (λ y is same. other (same_Some (pin_pair p) y (sym (pair-at pins _ p at) ∙ is) ∙ same))
