use Rattle.std.proofs.Common.{◌≡◌, ℕ, zero, suc, ◌+◌, List, [], ◌∷◌, ◌++◌, length, Bool, true, false, not, cond, Some, fold, refl, ap, sym, ◌∙◌, subst, append_assoc, length-append, arith, ◌≤◌}
use Rattle.std.specs.List.{IsDistinct, list_any, slice_get}
use Rattle.std.specs.Str.{bytes_eq}
use Rattle.list_facts.specs.Names.{mention, mentions, place_among}
use Rattle.std_laws.proofs.Every.{every-get}
use Rattle.std_laws.proofs.Bytes.{bytes_same, bytes_flip}
use Rattle.std_laws.proofs.Numbers.{one-more}
use Rattle.std_laws.proofs.Distinct.{distinct-push, distinct-apart}

-- the names that were mentioned are different
pub distinct-mentions : (seen names : List (List ℕ)) → IsDistinct bytes_eq seen → IsDistinct bytes_eq (fold mention seen names)
distinct-mentions seen [] d = d
distinct-mentions seen (v ∷ rest) d = distinct-mentions (mention seen v) rest (by (list_any (bytes_eq v) seen) refl)
  where
    by : (b : Bool) → list_any (bytes_eq v) seen ≡ b → IsDistinct bytes_eq (cond b seen (seen ++ v ∷ []))
    by true h = d
    by false h = distinct-push seen v d h

mentions-from : (seen names : List (List ℕ)) → IsDistinct bytes_eq (seen ++ names) → fold mention seen names ≡ seen ++ names
mentions-from seen [] d = sym (append_nil seen)
  where
    append_nil : (l : List (List ℕ)) → l ++ [] ≡ l
    append_nil [] = refl
    append_nil (x ∷ xs) = ap (λ (t : List (List ℕ)). x ∷ t) (append_nil xs)
mentions-from seen (v ∷ rest) d =
    ap (λ (b : Bool). fold mention (cond b seen (seen ++ v ∷ [])) rest) (distinct-apart seen rest v d)
    ∙ mentions-from (seen ++ v ∷ []) rest (subst (λ l. IsDistinct bytes_eq l) (sym (append_assoc seen (v ∷ []) rest)) d)
    ∙ append_assoc seen (v ∷ []) rest

-- the mentions of different names are the names
pub mentions-different : (names : List (List ℕ)) → IsDistinct bytes_eq names → mentions names ≡ names
mentions-different names d = mentions-from [] names d

-- each of different names has its own place
pub place-get : (names : List (List ℕ)) (n : ℕ) (w : List ℕ) → IsDistinct bytes_eq names → slice_get names n ≡ Some w → place_among names w ≡ n
unfolding IsDistinct
place-get [] n w d h = cc
place-get (x ∷ xs) zero w d h = ap (λ (b : Bool). cond (not b) (1 + place_among xs w) 0) (subst (λ u. bytes_eq w u ≡ true) (same h) (bytes_same w))
  where
    same : Some x ≡ Some w → w ≡ x
    same e = cc
place-get (x ∷ xs) (suc n) w d h =
    ap (λ (b : Bool). cond (not b) (1 + place_among xs w) 0) (bytes_flip x w (every-get (λ (y : List ℕ). bytes_eq x y ≡ false) xs n w d.0 h))
    ∙ one-more (place_among xs w) ∙ ap (λ (k : ℕ). suc k) (place-get xs n w d.1 h)

-- there are at most as many mentions as names
length-fold : (seen names : List (List ℕ)) → length (fold mention seen names) ≤ length seen + length names
length-fold seen [] = omega arith
length-fold seen (v ∷ rest) = omega (arith, length-fold (mention seen v) rest, one (list_any (bytes_eq v) seen))
  where
    one : (b : Bool) → length (cond b seen (seen ++ v ∷ [])) ≤ length seen + 1
    one true = omega arith
    one false = omega (arith, length-append seen (v ∷ []))

pub length-mentions : (names : List (List ℕ)) → length (mentions names) ≤ length names
length-mentions names = omega (arith, length-fold [] names)
