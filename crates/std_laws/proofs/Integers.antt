use Rattle.std.proofs.lemmas.Int.{to_z-of_z, ints}
use Rattle.std.proofs.Common.{◌≡◌, ℤ, ◌-ℤ◌, to_z, of_z, w64, SFits, refl, ◌≤ℤ◌, true, arith, ◌+◌, ◌+ℤ◌, ◌<◌, ◌<ℤ◌, Ordering, Bool, false, ap, ℕ, zero, suc, pos, sym, ◌∙◌, ◌*◌, ◌-◌, ◌/◌, negsuc}
use Rattle.std.specs.Prelude.{int_le, int_lt, unsigned_abs, neg_ℤ, int_div, ◌*ℤ◌}
use Rattle.std.specs.Ordering.{MatchOrdering, int_cmp, int_eq}
use Rattle.std.specs.declared.cmp.Ordering.TheVariants.{Less, Equal, Greater}
use Rattle.std.proofs.lemmas.Cmp.{int_ranked}
use Rattle.std.specs.Bool.{Decides}
use Rattle.std.specs.Cmp.{signed_Decides}
use Rattle.std.proofs.Math.Nat.{add-mul}

-- a signed number that is written and read back is the same
pub ruleset read_back = (to_z-of_z)

-- the difference of two numbers of 64 bits, read back, is theirs
pub difference : (a b x y : ℤ) → SFits w64 a → SFits w64 b → a ≡ x → b ≡ y
    → SFits w64 (to_z w64 (of_z w64 a) -ℤ to_z w64 (of_z w64 b))
    → to_z w64 (of_z w64 (to_z w64 (of_z w64 a) -ℤ to_z w64 (of_z w64 b))) ≡ x -ℤ y
difference a b x y first second from less fits = rw (to_z-of_z w64 _ fits, to_z-of_z w64 a first, to_z-of_z w64 b second, from, less) refl

-- a bound on numbers that are written and read back
pub read_below : (a b : ℤ) → SFits w64 a → SFits w64 b → a ≤ℤ to_z w64 (of_z w64 b) → to_z w64 (of_z w64 a) ≤ℤ b
read_below a b first second below = rw (to_z-of_z w64 a first) (rw (to_z-of_z w64 b second) at below)

pub read_above : (a b : ℤ) → SFits w64 a → SFits w64 b → to_z w64 (of_z w64 b) ≤ℤ a → b ≤ℤ to_z w64 (of_z w64 a)
read_above a b first second above = rw (to_z-of_z w64 a first) (rw (to_z-of_z w64 b second) at above)

pub le-true : (a b : _) → a ≤ℤ b → int_le a b ≡ true
le-true a b le = grind (arith, ints)

pub true-le : (a b : _) → int_le a b ≡ true → a ≤ℤ b
true-le a b is = grind (arith, ints)

pub lt-raised : (a b by : ℤ) → int_lt (a +ℤ by) (b +ℤ by) ≡ int_lt a b
lt-raised a b by = grind (arith, ints)

pub int_equal : (x y : ℤ) → int_cmp x y ≡ Equal → x ≡ y
int_equal x y is = go (int_cmp x y) is (int_ranked x y (int_cmp x y) refl)
  where
    go : (r : Ordering) → r ≡ Equal → MatchOrdering r (x <ℤ y) (x ≡ y) (y <ℤ x) → x ≡ y
    go Less is ranked = let never : ⊥ = cc in absurd never
    go Equal is ranked = ranked
    go Greater is ranked = let never : ⊥ = cc in absurd never

pub int_same : (x : ℤ) → int_cmp x x ≡ Equal
int_same x = go (int_cmp x x) (int_ranked x x (int_cmp x x) refl)
  where
    go : (r : Ordering) → MatchOrdering r (x <ℤ x) (x ≡ x) (x <ℤ x) → r ≡ Equal
    go Less ranked = absurd (omega (arith, ints, ranked))
    go Equal ranked = refl
    go Greater ranked = absurd (omega (arith, ints, ranked))

-- numbers of which one is not the other are not found equal
pub int-apart : (x y : ℤ) → (of_z w64 x ≡ of_z w64 y → ⊥) → int_eq x y ≡ false
int-apart x y differ = by (int_eq x y) (signed_Decides x y)
  where
    by : (b : Bool) → Decides b (x ≡ y) → b ≡ false
    by true h = absurd (differ (ap (of_z w64) (h.0 refl)))
    by false h = refl

-- numbers that are not found equal are some way apart
pub int-distance : (x y : ℤ) → int_eq x y ≡ false → 0 < unsigned_abs (x -ℤ y)
int-distance x y h = by (unsigned_abs (x -ℤ y)) refl
  where
    differ : x ≡ y → ⊥
    differ e = no ((signed_Decides x y).1 e)
      where
        no : int_eq x y ≡ true → ⊥
        no is = cc

    same : unsigned_abs (x -ℤ y) ≡ 0 → x ≡ y
    same e = omega (arith, ints)

    by : (n : ℕ) → unsigned_abs (x -ℤ y) ≡ n → 0 < n
    by zero e = absurd (differ (same e))
    by (suc n) e = omega arith

pub int-under : (x x' : ℤ) → int_lt x' x ≡ true → x ≡ x' +ℤ pos (unsigned_abs (x -ℤ x'))
int-under x x' h = grind (arith, ints)

pub int-over : (x x' : ℤ) → int_lt x' x ≡ false → x' ≡ x +ℤ pos (unsigned_abs (x -ℤ x'))
int-over x x' h = grind (arith, ints)

-- numbers that are found equal are equal
pub int-equal : (x y : ℤ) → int_eq x y ≡ true → x ≡ y
int-equal x y = (signed_Decides x y).0

pub int-itself : (x : ℤ) → int_eq x x ≡ true
int-itself x = (signed_Decides x x).1 refl

pub int-differ : (a b : ℤ) → (a ≡ b → ⊥) → int_eq a b ≡ false
int-differ a b differ = by (int_eq a b) (signed_Decides a b)
  where
    by : (r : Bool) → Decides r (a ≡ b) → r ≡ false
    by true h = absurd (differ (h.0 refl))
    by false h = refl

-- the sum of scaled numbers
pub scaled-sum : (a b n c : ℕ) → a + b ≡ n → pos (a * c) +ℤ pos (b * c) ≡ pos (n * c)
scaled-sum a b n c e =
    let product : n * c ≡ a * c + b * c = ap (λ (m : ℕ). m * c) (sym e) ∙ add-mul a b c in
    omega (arith, ints)

-- the difference of scaled numbers
pub scaled-difference : (a b n c : ℕ) → n + a ≡ b → neg_ℤ (pos (a * c)) +ℤ pos (b * c) ≡ pos (n * c)
scaled-difference a b n c e =
    let product : b * c ≡ n * c + a * c = ap (λ (m : ℕ). m * c) (sym e) ∙ add-mul n a c in
    omega (arith, ints)

pub quarter-fourfold : (z : ℤ) → int_div (pos 4 *ℤ z) (pos 4) ≡ z
quarter-fourfold (pos n) = ap pos (omega arith)
quarter-fourfold (negsuc n) =
    let whole : pos 4 *ℤ negsuc n ≡ negsuc (4 * n + 3) = omega (arith, ints) in
    let count : suc (4 * n + 3) / 4 ≡ suc n = omega arith in
    rw whole (ap (λ (k : ℕ). neg_ℤ (pos k)) count)

pub quarter-of : (a z : ℤ) → a ≡ pos 4 *ℤ z → int_div a (pos 4) ≡ z
quarter-of a z fourfold = ap (λ (x : ℤ). int_div x (pos 4)) fourfold ∙ quarter-fourfold z
