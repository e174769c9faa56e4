use Rattle.std.proofs.Common.{◌≡◌, ◌<◌, ◌≤◌, ◌++◌, ℕ, zero, suc, List, [], ◌∷◌, Some, ap, arith, get_or, length, refl, ◌∙◌}
use Rattle.std.specs.Prelude.{slice_get, slice_range}
use Rattle.greedy_router.specs.Packed.{AreEnds, begin_of, lists_in}
use Rattle.std_laws.proofs.Slices.{slice_range-append, slice_range-last}

pub ends-within : (from : ℕ) (ends : List ℕ) (all : ℕ) → AreEnds from ends all → from ≤ all
ends-within from [] all is = omega (arith, is)
ends-within from (end ∷ ends) all is = let later = ends-within end ends all is.1 in omega (arith, is.0, later)

-- a list begins before it ends, and ends within all items
pub ends-at : (from : ℕ) (ends : List ℕ) (all number : ℕ) → AreEnds from ends all → number < length ends
    → (begin_of from ends number ≤ get_or ends number 0) × (get_or ends number 0 ≤ all)
ends-at from [] all number is less = absurd (omega (arith, less))
ends-at from (end ∷ ends) all zero is less = (is.0, ends-within end ends all is.1)
ends-at from (end ∷ ends) all (suc zero) is less = ends-at end ends all zero is.1 (omega (arith, less))
ends-at from (end ∷ ends) all (suc (suc number)) is less = ends-at end ends all (suc number) is.1 (omega (arith, less))

pub ends-push : (from : ℕ) (ends : List ℕ) (all more : ℕ) → AreEnds from ends all → all ≤ more → AreEnds from (ends ++ more ∷ []) more
ends-push from [] all more is less = (omega (arith, is, less), refl)
ends-push from (end ∷ ends) all more is less = (is.0, ends-push end ends all more is.1 less)

pub lists-length : {A : Type 0} (from : ℕ) (ends : List ℕ) (items : List A) → length (lists_in from ends items) ≡ length ends
lists-length from [] items = refl
lists-length from (end ∷ ends) items = ap suc (lists-length end ends items)

-- a list by its number
pub lists-at : {A : Type 0} (from : ℕ) (ends : List ℕ) (items : List A) (number : ℕ) → number < length ends
    → slice_get (lists_in from ends items) number ≡ Some (slice_range items (begin_of from ends number) (get_or ends number 0))
lists-at from [] items number less = absurd (omega (arith, less))
lists-at from (end ∷ ends) items zero less = refl
lists-at from (end ∷ ends) items (suc zero) less = lists-at end ends items zero (omega (arith, less))
lists-at from (end ∷ ends) items (suc (suc number)) less = lists-at end ends items (suc number) (omega (arith, less))

-- one list more
pub lists-push : {A : Type 0} (from : ℕ) (ends : List ℕ) (items list : List A) → AreEnds from ends (length items)
    → lists_in from (ends ++ length (items ++ list) ∷ []) (items ++ list) ≡ lists_in from ends items ++ list ∷ []
lists-push from [] items list is =
    ap (λ l. l ∷ []) (ap (λ n. slice_range (items ++ list) n (length (items ++ list))) is ∙ slice_range-last items list)
lists-push from (end ∷ ends) items list is =
    let part = slice_range-append items list from end is.0 (ends-within end ends (length items) is.1) in
    let others = lists-push end ends items list is.1 in
    (λ i. part i ∷ others i)
