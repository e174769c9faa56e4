use Rattle.std.proofs.Common.{◌≡◌, ℕ, zero, suc, List, [], ◌∷◌, ◌++◌, replicate, true, refl, ◌∙◌, None, Some, arith, nat_le}
use Rattle.std.proofs.lemmas.Bool.Decides.{nat_tests}
use Rattle.std.specs.Option.{option_and_then}
use Rattle.read_base.proofs.DigitsLaws.{behind-append, within-append}
use Rattle.read_base.specs.Digits.{number_behind, number_within}

-- a zero behind a number, and then the others
pub zeros-on : (most n less k : ℕ) → k ≡ suc less
    → number_behind most n (replicate k 48) ≡ option_and_then (λ m. number_behind most m (replicate less 48)) (number_behind most n (48 ∷ []))
zeros-on most n less k is = rw is (behind-append most n (48 ∷ []) (replicate less 48))

-- a zero that brings a number above the greatest
pub zeros-fail : (most n less k : ℕ) → k ≡ suc less → number_behind most n (48 ∷ []) ≡ None → number_behind most n (replicate k 48) ≡ None
zeros-fail most n less k is none = zeros-on most n less k is ∙ rw none refl

-- zeros behind 0 write 0
pub zeros-none : (most zeros : ℕ) → number_behind most 0 (replicate zeros 48) ≡ Some 0
zeros-none most zero = let is : nat_le 0 most ≡ true = grind (arith, nat_tests) in rw is refl
zeros-none most (suc zeros) =
    let is : nat_le 0 most ≡ true = grind (arith, nat_tests) in
    let one : number_behind most 0 (48 ∷ []) ≡ Some 0 = rw is refl in
    behind-append most 0 (48 ∷ []) (replicate zeros 48) ∙ rw one (zeros-none most zeros)

-- digits behind digits behind digits: the first write no number, or with the second none, or the last are written behind both
pub digits-none : (most : ℕ) (ds es fs : List ℕ) → number_within most ds ≡ None → number_within most (ds ++ (es ++ fs)) ≡ None
digits-none most ds es fs none = within-append most ds (es ++ fs) ∙ rw none refl

pub digits-fail : (most n : ℕ) (ds es fs : List ℕ) → number_within most ds ≡ Some n → number_behind most n es ≡ None → number_within most (ds ++ (es ++ fs)) ≡ None
digits-fail most n ds es fs some none = within-append most ds (es ++ fs) ∙ rw some (behind-append most n es fs ∙ rw none refl)

pub digits-are : (most n m : ℕ) (ds es fs : List ℕ) → number_within most ds ≡ Some n → number_behind most n es ≡ Some m
    → number_within most (ds ++ (es ++ fs)) ≡ number_behind most m fs
digits-are most n m ds es fs some more = within-append most ds (es ++ fs) ∙ rw some (behind-append most n es fs ∙ rw more refl)
