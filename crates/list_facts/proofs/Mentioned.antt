use Rattle.std.proofs.Common.{◌≡◌, ℕ, ◌+◌, ◌<◌, List, [], ◌∷◌, ◌++◌, length, Bool, true, false, not, cond, ◌||◌, Some, fold, refl, ap, sym, ◌∙◌, subst, arith}
use Rattle.std.proofs.lemmas.List.Folds.{list_any-append}
use Rattle.std.specs.List.{list_any, slice_get}
use Rattle.std.specs.Str.{bytes_eq}
use Rattle.list_facts.specs.Names.{mention, place_among}
use Rattle.std_laws.proofs.Bytes.{bytes_one}
use Rattle.std_laws.proofs.Numbers.{one-more}

-- a name that is among names has its place below their number
pub place-below : (names : List (List ℕ)) (w : List ℕ) → list_any (bytes_eq w) names ≡ true → place_among names w < length names
place-below [] w = λ h. cc
place-below (x ∷ xs) w = by (bytes_eq w x) (λ h. place-below xs w h)
  where
    by : (b : Bool) → (list_any (bytes_eq w) xs ≡ true → place_among xs w < length xs) → (b || list_any (bytes_eq w) xs) ≡ true
        → cond (not b) (1 + place_among xs w) 0 < length (x ∷ xs)
    by true below h = omega arith
    by false below h = omega (arith, below h)

-- and that name stands there
pub get-place : (names : List (List ℕ)) (w : List ℕ) → list_any (bytes_eq w) names ≡ true → slice_get names (place_among names w) ≡ Some w
get-place [] w = λ h. cc
get-place (x ∷ xs) w = by (bytes_eq w x) (bytes_one w x) (λ h. get-place xs w h)
  where
    by : (b : Bool) → (b ≡ true → w ≡ x) → (list_any (bytes_eq w) xs ≡ true → slice_get xs (place_among xs w) ≡ Some w)
        → (b || list_any (bytes_eq w) xs) ≡ true → slice_get (x ∷ xs) (cond (not b) (1 + place_among xs w) 0) ≡ Some w
    by true one found h = ap (λ (v : List ℕ). Some v) (sym (one refl))
    by false one found h = ap (slice_get (x ∷ xs)) (one-more (place_among xs w)) ∙ found h

-- the names of a mention are those before and the one mentioned
any-mention : (seen : List (List ℕ)) (v w : List ℕ) → list_any (bytes_eq w) (mention seen v) ≡ (list_any (bytes_eq w) seen || bytes_eq w v)
any-mention seen v w = by (list_any (bytes_eq v) seen) refl
  where
    old : (a b : Bool) → (b ≡ true → a ≡ true) → a ≡ (a || b)
    old true b h = refl
    old false true h = h refl
    old false false h = refl

    or_false : (a b : Bool) → (a || (b || false)) ≡ (a || b)
    or_false true b = refl
    or_false false true = refl
    or_false false false = refl

    by : (b : Bool) → list_any (bytes_eq v) seen ≡ b → list_any (bytes_eq w) (cond b seen (seen ++ v ∷ [])) ≡ (list_any (bytes_eq w) seen || bytes_eq w v)
    by true h = old (list_any (bytes_eq w) seen) (bytes_eq w v) (λ is. subst (λ u. list_any (bytes_eq u) seen ≡ true) (sym (bytes_one w v is)) h)
    by false h = list_any-append (bytes_eq w) seen (v ∷ []) ∙ or_false (list_any (bytes_eq w) seen) (bytes_eq w v)

-- a name is among those mentioned just where it is among the names
pub any-mentions : (seen rest : List (List ℕ)) (w : List ℕ)
    → list_any (bytes_eq w) (fold mention seen rest) ≡ (list_any (bytes_eq w) seen || list_any (bytes_eq w) rest)
any-mentions seen [] w = or_false (list_any (bytes_eq w) seen)
  where
    or_false : (b : Bool) → b ≡ (b || false)
    or_false true = refl
    or_false false = refl
any-mentions seen (v ∷ rest) w =
    any-mentions (mention seen v) rest w
    ∙ ap (λ (b : Bool). b || list_any (bytes_eq w) rest) (any-mention seen v w)
    ∙ or_assoc (list_any (bytes_eq w) seen) (bytes_eq w v) (list_any (bytes_eq w) rest)
  where
    or_assoc : (a b c : Bool) → ((a || b) || c) ≡ (a || (b || c))
    or_assoc true b c = refl
    or_assoc false b c = refl
