use Rattle.std.proofs.Common.{◌≡◌, ℕ, List, true, refl, Bool, false, subst, sym, ◌∙◌, ◌≢◌}
use Rattle.std.proofs.lemmas.Slice.Eq.{bytes_eq-Decides}
use Rattle.std.specs.Str.{bytes_eq}
use Rattle.std.proofs.lemmas.Bool.{both_ways, false_from_ne_true}

-- a name is equal to itself by the test
pub bytes_same : (w : List ℕ) → bytes_eq w w ≡ true
bytes_same w = (bytes_eq-Decides w w).1 refl

-- names that the test takes for one are one
pub bytes_one : (v w : List ℕ) → bytes_eq v w ≡ true → v ≡ w
bytes_one v w = (bytes_eq-Decides v w).0

-- the test takes two names for one in either order
pub bytes-flips : (v w : List ℕ) → bytes_eq v w ≡ bytes_eq w v
bytes-flips v w = by (bytes_eq v w) (bytes_eq w v) refl refl
  where
    by : (a b : Bool) → bytes_eq v w ≡ a → bytes_eq w v ≡ b → a ≡ b
    by true true one other = refl
    by false false one other = refl
    by true false one other = absurd (both_ways (bytes_eq w v) other (subst (λ (x : List ℕ). bytes_eq x v ≡ true) (bytes_one v w one) (bytes_same v)))
    by false true one other = absurd (both_ways (bytes_eq v w) one (subst (λ (x : List ℕ). bytes_eq x w ≡ true) (bytes_one w v other) (bytes_same w)))

-- two names differ either way round
pub bytes_flip : (v w : List ℕ) → bytes_eq v w ≡ false → bytes_eq w v ≡ false
bytes_flip v w h = by (bytes_eq w v) refl
  where
    by : (b : Bool) → bytes_eq w v ≡ b → b ≡ false
    by true is = sym (subst (λ u. bytes_eq u v ≡ true) (bytes_one w v is) is) ∙ subst (λ u. bytes_eq v u ≡ false) (bytes_one w v is) h
    by false is = refl

pub bytes-differ : (a b : List ℕ) → a ≢ b → bytes_eq a b ≡ false
bytes-differ a b apart = go (bytes_eq a b) refl
  where
    go : (t : Bool) → bytes_eq a b ≡ t → t ≡ false
    go true is = absurd (apart (bytes_one a b is))
    go false is = refl

pub bytes-other : (name a b : List ℕ) → a ≢ b → bytes_eq name a ≡ true → bytes_eq name b ≡ false
bytes-other name a b apart is =
    false_from_ne_true (bytes_eq name b)
    (λ too. apart (sym ((bytes_eq-Decides name a).0 is) ∙ (bytes_eq-Decides name b).0 too))
