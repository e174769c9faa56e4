use Rattle.std.proofs.Common.{◌≡◌, refl, sym, ◌∙◌, ℕ, ◌+◌, ◌-◌, ◌*◌, ◌<◌, ◌≤◌, List, [], ◌∷◌, ◌++◌, Bool, true, false, None, Option, Some, IfSome, inl, inr, arith, ◌&&◌, if◌then◌else◌}
use Rattle.std.proofs.lemmas.Bool.Decides.{nat_tests}
use Rattle.std.specs.Char.{is_ascii_digit, digit_value}
use Rattle.std.specs.List.{list_all}
use Rattle.std.specs.Option.{option_and_then}
use Rattle.std.specs.Prelude.{nat_lt, nat_le}
use Rattle.std.specs.Str.Parse.{digits_value_after}
use Rattle.std_laws.proofs.Options.{some_if}
use Rattle.std.proofs.lemmas.Bool.{and_parts, cases_Bool}
use borrow.Author.Tests.{leb-true}
use Rattle.read_base.specs.Digits.{number_behind, number_within}

-- digits make a number no less
after-ge : (n : ℕ) (ds : List ℕ) → n ≤ digits_value_after 10 n ds
after-ge n [] = omega arith
after-ge n (c ∷ cs) = let more = after-ge (n * 10 + digit_value c) cs in omega (arith, more)

digit-value : (c : ℕ) → is_ascii_digit c ≡ true → digit_value c ≡ c - 48
digit-value c digit =
    let low : nat_lt c 48 ≡ false = grind (arith, nat_tests) in
    let high : nat_lt c 58 ≡ true = grind (arith, nat_tests) in
    rw (low, high) refl

-- one more digit
behind-more : (most n c : ℕ) (cs : List ℕ) → is_ascii_digit c ≡ true → number_behind most n (c ∷ cs) ≡ number_behind most (n * 10 + (c - 48)) cs
behind-more most n c cs is = rw (is, digit-value c is) refl

-- a choice that falls to none for its second test
nothing : (a b : Bool) (x : ℕ) → b ≡ false → (if a && b then Some x else None) ≡ None
nothing true b x is = rw is refl
nothing false b x is = refl

-- no digits bring a number down that is too great
above : (most n : ℕ) (ds : List ℕ) → nat_le n most ≡ false → number_behind most n ds ≡ None
above most n ds is =
    let more = after-ge n ds in
    let whole : nat_le (digits_value_after 10 n ds) most ≡ false = grind (arith, nat_tests) in
    nothing (list_all is_ascii_digit ds) _ _ whole

-- a number that is too great before its digits
pub behind-great : (most n : ℕ) (ds : List ℕ) → most < n → number_behind most n ds ≡ None
behind-great most n ds great = let is : nat_le n most ≡ false = grind (arith, nat_tests) in above most n ds is

-- a number that is too great with one more digit
pub behind-over : (most n c : ℕ) (bs cs : List ℕ) (total : Option ℕ) → bs ≡ c ∷ cs → is_ascii_digit c ≡ true
    → (if nat_le (n * 10 + (c - 48)) most then Some (n * 10 + (c - 48)) else None) ≡ None → number_behind most n bs ≡ total → None ≡ total
behind-over most n c bs cs total e is none so_far =
    sym (rw (e, behind-more most n c cs is) (above most (n * 10 + (c - 48)) cs (great (nat_le (n * 10 + (c - 48)) most) _ none))) ∙ so_far
  where
    great : (b : Bool) (x : ℕ) → (if b then Some x else None) ≡ None → b ≡ false
    great true x is = cc
    great false x is = refl

-- a byte that is no digit writes none
behind-odd : (most n c : ℕ) (cs : List ℕ) → is_ascii_digit c ≡ false → number_behind most n (c ∷ cs) ≡ None
behind-odd most n c cs is = rw is refl

-- no digits write the number itself, where it is at most so great
behind-none : (most n : ℕ) → nat_le n most ≡ true → number_behind most n [] ≡ Some n
behind-none most n is = rw is refl

-- digits behind digits
pub behind-append : (most n : ℕ) (ds es : List ℕ) → number_behind most n (ds ++ es) ≡ option_and_then (λ m. number_behind most m es) (number_behind most n ds)
behind-append most n [] es = elim (cases_Bool (nat_le n most)) [
  | inl is ↦ rw (behind-none most n is) refl
  | inr is ↦ rw (above most n es is, above most n [] is) refl
]
behind-append most n (c ∷ cs) es = elim (cases_Bool (is_ascii_digit c)) [
  | inl is ↦ rw (behind-more most n c (cs ++ es) is, behind-more most n c cs is) (behind-append most (n * 10 + (c - 48)) cs es)
  | inr is ↦ rw (behind-odd most n c (cs ++ es) is, behind-odd most n c cs is) refl
]

-- digits behind the digits of a number
pub within-append : (most : ℕ) (ds es : List ℕ) → number_within most (ds ++ es) ≡ option_and_then (λ m. number_behind most m es) (number_within most ds)
unfolding number_within
within-append most ds es = behind-append most 0 ds es

-- a number that is read is at most so great
pub within-most : (most : ℕ) (digits : List ℕ) → IfSome (number_within most digits) (λ n. n ≤ most)
unfolding number_within
within-most most digits = some_if (λ n. n ≤ most) _ _ (λ both. leb-true (digits_value_after 10 0 digits) most (and_parts (list_all is_ascii_digit digits) _ both).1)
