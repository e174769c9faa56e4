use Rattle.std.proofs.Common.{◌≡◌, ℕ, List, [], ◌∷◌, ◌++◌, false, Bool, true, cond, map, ◌+◌, ◌||◌, refl, eqb, inl, inr, sym, ap₂, ◌∙◌, arith, Contains, filter, ◌≢◌, ◌<◌, ◌⊎◌, length, get_or}
use Rattle.std.specs.List.{AllByRecursion, IsDistinct, list_any}
use Rattle.std.specs.Prelude.{nat_eq}
use Rattle.std_laws.proofs.Every.{every-right, every-left, every-filter, every-push, every-at}
use Rattle.std.specs.Str.{bytes_eq}
use Rattle.std_laws.proofs.Bytes.{bytes_flip}
use Rattle.std.proofs.lemmas.Bool.{cases_eq, eqb-false, eq-eqb, ne_eqb, cond-true, cond-false}
use Rattle.std_laws.proofs.Members.{member-cases}
use Rattle.std.proofs.lemmas.Bool.Decides.{nat_tests}
use Rattle.std.proofs.lemmas.Map.Keys.{apart_from_distinct}

-- of two lists without equal numbers, each number of the first differs from each of the second
pub numbers-apart : (xs ys : List ℕ) → IsDistinct nat_eq (xs ++ ys) → AllByRecursion (λ (x : ℕ). AllByRecursion (λ (y : ℕ). nat_eq x y ≡ false) ys) xs
unfolding IsDistinct
numbers-apart [] ys different = tt
numbers-apart (x ∷ xs) ys different = (every-right (λ (y : ℕ). nat_eq x y ≡ false) xs ys different.0, numbers-apart xs ys different.1)

pub first-distinct : (xs ys : List ℕ) → IsDistinct nat_eq (xs ++ ys) → IsDistinct nat_eq xs
unfolding IsDistinct
first-distinct [] ys different = tt
first-distinct (x ∷ xs) ys different = (every-left (λ (y : ℕ). nat_eq x y ≡ false) xs ys different.0, first-distinct xs ys different.1)

pub second-distinct : (xs ys : List ℕ) → IsDistinct nat_eq (xs ++ ys) → IsDistinct nat_eq ys
unfolding IsDistinct
second-distinct [] ys different = different
second-distinct (x ∷ xs) ys different = second-distinct xs ys different.1

-- some of different names are different
pub distinct-filter : {X : Type 0} (f : X → List ℕ) (p : X → Bool) (xs : List X) → IsDistinct bytes_eq (map f xs) → IsDistinct bytes_eq (map f (filter p xs))
unfolding IsDistinct
distinct-filter f p [] h = tt
distinct-filter f p (x ∷ xs) h = by (p x) (distinct-filter f p xs h.1)
  where
    by : (b : Bool) → IsDistinct bytes_eq (map f (filter p xs)) → IsDistinct bytes_eq (map f (cond b (x ∷ filter p xs) (filter p xs)))
    by true rest = (every-filter (λ (y : List ℕ). bytes_eq (f x) y ≡ false) f p xs h.0, rest)
    by false rest = rest

-- different names with one more that is none of them are different
pub distinct-push : (seen : List (List ℕ)) (v : List ℕ) → IsDistinct bytes_eq seen → list_any (bytes_eq v) seen ≡ false → IsDistinct bytes_eq (seen ++ v ∷ [])
unfolding IsDistinct
distinct-push [] v d = λ h. (tt, tt)
distinct-push (x ∷ xs) v d = by (bytes_eq v x) refl (λ h. distinct-push xs v d.1 h)
  where
    by : (b : Bool) → bytes_eq v x ≡ b → (list_any (bytes_eq v) xs ≡ false → IsDistinct bytes_eq (xs ++ v ∷ [])) → (b || list_any (bytes_eq v) xs) ≡ false
        → AllByRecursion (λ (y : List ℕ). bytes_eq x y ≡ false) (xs ++ v ∷ []) × IsDistinct bytes_eq (xs ++ v ∷ [])
    by true is more h = cc
    by false is more h = (every-push (λ (y : List ℕ). bytes_eq x y ≡ false) xs v d.0 (bytes_flip v x is), more h)

pub distinct-none : IsDistinct bytes_eq []
unfolding IsDistinct
distinct-none = tt

-- no name is equal to one before it
pub distinct-apart : (seen rest : List (List ℕ)) (v : List ℕ) → IsDistinct bytes_eq (seen ++ v ∷ rest) → list_any (bytes_eq v) seen ≡ false
unfolding IsDistinct
distinct-apart [] rest v d = refl
distinct-apart (x ∷ xs) rest v d = by (bytes_eq v x) (bytes_flip x v (every-at (λ (y : List ℕ). bytes_eq x y ≡ false) xs rest v d.0)) (distinct-apart xs rest v d.1)
  where
    by : (b : Bool) → b ≡ false → list_any (bytes_eq v) xs ≡ false → (b || list_any (bytes_eq v) xs) ≡ false
    by true is more = is
    by false is more = more

-- of different numbers one is kept
pub filter-one : (xs : List ℕ) (n : ℕ) → IsDistinct eqb xs → Contains xs n → filter (λ x. eqb x n) xs ≡ n ∷ []
unfolding IsDistinct
filter-one [] n different there = absurd (omega (arith, there.1))
filter-one (x ∷ xs) n different there =
    elim (cases_eq x n) [
      | inl same ↦
          cond-true (eqb x n) (x ∷ filter (λ y. eqb y n) xs) (filter (λ y. eqb y n) xs) (eq-eqb x n same)
          ∙ ap₂ (λ (y : ℕ) (ys : List ℕ). y ∷ ys) same (none xs (rw same at different.0))
      | inr other ↦
          cond-false (eqb x n) (x ∷ filter (λ y. eqb y n) xs) (filter (λ y. eqb y n) xs) (ne_eqb x n other)
          ∙ filter-one xs n different.1 (elim (member-cases x xs n there) [ inl same ↦ absurd (other same) | inr later ↦ later ])
    ]
  where
    none : (ys : List ℕ) → AllByRecursion (λ y. eqb n y ≡ false) ys → filter (λ y. eqb y n) ys ≡ []
    none [] all = refl
    none (y ∷ ys) all =
        cond-false (eqb y n) (y ∷ filter (λ z. eqb z n) ys) (filter (λ z. eqb z n) ys) (ne_eqb y n (λ same. eqb-false n y all.0 (sym same)))
        ∙ none ys all.1

pub apart-places : (xs : List ℕ) (i j d : ℕ) → IsDistinct nat_eq xs → i < length xs → j < length xs → i ≢ j → get_or xs i d ≢ get_or xs j d
apart-places xs i j d different in_i in_j other same = by (split i j other)
  where
    split : (i j : ℕ) → i ≢ j → (i < j) ⊎ (j < i)
    split i j other = grind arith

    flips : (x y : ℕ) → x ≡ y → nat_eq x y ≡ false → ⊥
    flips x y h test = grind (arith, nat_tests)

    by : (i < j) ⊎ (j < i) → ⊥
    by (inl less) = flips (get_or xs i d) (get_or xs j d) same (apart_from_distinct nat_eq xs i j d different less in_j)
    by (inr less) = flips (get_or xs j d) (get_or xs i d) (sym same) (apart_from_distinct nat_eq xs j i d different less in_i)
