use Rattle.std.proofs.Common.{◌≡◌, refl, ap, ◌∙◌, ℕ, zero, suc, ◌<◌, ◌^◌, ◌≤◌, List, [], ◌∷◌, ◌++◌, length, Bool, true, false, ℤ, pos, negsuc, arith, decimal}
use Rattle.std.proofs.lemmas.Bool.Decides.{nat_tests}
use Rattle.std.proofs.lemmas.Fmt.{decimal_is_IsNumeral}
use Rattle.std.proofs.lemmas.Str.Parse.{digit_from_value}
use Rattle.std.proofs.lemmas.Int.{ints}
use Rattle.std.proofs.lemmas.Bool.{le-leb, and_parts, and_from}
use Rattle.std.specs.Char.{is_ascii_digit, is_ascii_uppercase}
use Rattle.std.specs.Fmt.{signed_decimal}
use Rattle.std.specs.List.{list_all}
use Rattle.std.specs.Prelude.{Ok, ◌==◌}
use Rattle.std.specs.Str.Parse.{AllDigits, digits_value}
use Rattle.cif_text.specs.Bytes.{is_blank, is_separator, span, skip, begins}
use Rattle.read_base.specs.Digits.{number_within}
use Rattle.read_base.specs.Steps.{◌>>=◌}
use Rattle.cif_text.specs.Numbers.{greatest, value_of, value_at, natural, number, positive, apart}
use Rattle.cif_text.specs.Printable.{IsCifNumber, IsNatural, IsPart}
use Rattle.cif_text.proofs.SpanLemmas.{span-append, begins-other, skip-blank, apart-blank}

-- digits, as the test of CIF has them
digits-all : (ds : List ℕ) → AllDigits 10 ds → list_all is_ascii_digit ds ≡ true
digits-all [] digits = refl
digits-all (d ∷ ds) digits =
    let range = digit_from_value d digits.0 in
    and_from (is_ascii_digit d) (list_all is_ascii_digit ds) (grind (arith, nat_tests, range)) (digits-all ds digits.1)

pub decimal-digits : (n : ℕ) → n < 2 ^ 64 → list_all is_ascii_digit (decimal n) ≡ true
decimal-digits n small = digits-all (decimal n) (decimal_is_IsNumeral n small).0.1

pub decimal-all : (n : ℕ) → n ≤ greatest → list_all is_ascii_digit (decimal n) ≡ true
decimal-all n small = decimal-digits n (omega arith)

pub digits-some : (n : ℕ) → n < 2 ^ 64 → 1 ≤ length (decimal n)
digits-some n small = omega (arith, (decimal_is_IsNumeral n small).0.0)

pub decimal-some : (n : ℕ) → n ≤ greatest → 1 ≤ length (decimal n)
decimal-some n small = digits-some n (omega arith)

-- the value of some digits, of which there are any
value-some : (place : ℕ) (ds r : List ℕ) (n : ℕ) → 1 ≤ length ds → list_all is_ascii_digit ds ≡ true → digits_value 10 ds ≡ n → n ≤ greatest
    → value_of place ds r ≡ Ok (n, r)
unfolding number_within
value-some place [] r n some every value small = absurd (omega arith)
value-some place (d ∷ ds) r n some every value small = rw (every, value, le-leb n greatest small) refl

pub value-decimal : (place n : ℕ) (r : List ℕ) → n ≤ greatest → begins is_ascii_digit r ≡ false
    → value_at place (span is_ascii_digit (decimal n ++ r)) ≡ Ok (n, r)
value-decimal place n r small stop =
    rw (span-append is_ascii_digit (decimal n) r (decimal-all n small) stop)
    (value-some place (decimal n) r n (decimal-some n small) (decimal-all n small) (decimal_is_IsNumeral n (omega arith)).1 small)

pub natural-decimal : (n : ℕ) (r : List ℕ) → IsNatural n → begins is_ascii_digit r ≡ false → natural (decimal n ++ r) ≡ Ok (n, r)
unfolding natural
natural-decimal n r near stop = value-decimal (length (decimal n ++ r)) n r near.high stop

pub positive-decimal : (n : ℕ) (r : List ℕ) → IsPart n → begins is_ascii_digit r ≡ false → positive (decimal n ++ r) ≡ Ok (n, r)
unfolding positive
positive-decimal zero r near stop = absurd (omega arith)
positive-decimal (suc n) r near stop = rw (natural-decimal (suc n) r (record { high = near.high }) stop) refl

-- a digit is no minus
digit-no-minus : (c : ℕ) → is_ascii_digit c ≡ true → (c == 45) ≡ false
digit-no-minus c digit = grind (arith, nat_tests)

-- digits are read without a sign
number-digits : (ds r : List ℕ) → 1 ≤ length ds → list_all is_ascii_digit ds ≡ true
    → number (ds ++ r) ≡ (natural (ds ++ r) >>= λ n. Ok (pos n.0, n.1))
unfolding number
number-digits [] r some every = absurd (omega arith)
number-digits (d ∷ ds) r some every =
    rw (digit-no-minus d (and_parts (is_ascii_digit d) (list_all is_ascii_digit ds) every).0) refl

pub number-signed : (z : ℤ) (r : List ℕ) → IsCifNumber z → begins is_ascii_digit r ≡ false → number (signed_decimal z ++ r) ≡ Ok (z, r)
unfolding number
number-signed (pos n) r near stop =
    let small : n ≤ greatest = omega (arith, ints) in
    rw (number-digits (decimal n) r (decimal-some n small) (decimal-all n small), natural-decimal n r (record { high = small }) stop) refl
number-signed (negsuc n) r near stop =
    let small : suc n ≤ greatest = omega (arith, ints) in
    rw (value-decimal _ (suc n) r small stop) refl

-- a digit is no blank and no separator
digit-no-blank : (c : ℕ) → is_ascii_digit c ≡ true → is_blank c ≡ false
digit-no-blank c digit = rw digit refl

digit-no-separator : (c : ℕ) → is_ascii_digit c ≡ true → is_separator c ≡ false
digit-no-separator c digit =
    let upper : is_ascii_uppercase c ≡ false = grind (arith, nat_tests) in rw (upper, digit) refl

-- the bytes that separate numbers: a blank is such, a digit and a minus are not
pub record IsGap (p : ℕ → Bool) : Type 0 where
  pub blank : p 32 ≡ true
  pub digit : (c : ℕ) → is_ascii_digit c ≡ true → p c ≡ false
  pub minus : p 45 ≡ false

pub blank-gap : IsGap is_blank
blank-gap = record { blank = refl; digit = digit-no-blank; minus = refl }

pub separator-gap : IsGap is_separator
separator-gap = record { blank = refl; digit = digit-no-separator; minus = refl }

pub begins-decimal : (p : ℕ → Bool) (gap : IsGap p) (n : ℕ) (r : List ℕ) → n ≤ greatest → begins p (decimal n ++ r) ≡ false
begins-decimal p gap n r small = begins-other p is_ascii_digit gap.digit (decimal n) r (decimal-some n small) (decimal-all n small)

pub begins-signed : (p : ℕ → Bool) (gap : IsGap p) (z : ℤ) (r : List ℕ) → IsCifNumber z → begins p (signed_decimal z ++ r) ≡ false
begins-signed p gap (pos n) r near = begins-decimal p gap n r (omega (arith, ints))
begins-signed p gap (negsuc n) r near = gap.minus

-- numbers behind a blank
pub number-apart : (p : ℕ → Bool) (gap : IsGap p) (z : ℤ) (r : List ℕ) → IsCifNumber z → begins is_ascii_digit r ≡ false
    → apart p number (32 ∷ signed_decimal z ++ r) ≡ Ok (z, r)
number-apart p gap z r near stop =
    apart-blank p number (signed_decimal z ++ r) gap.blank (begins-signed p gap z r near) ∙ number-signed z r near stop

pub number-skipped : (p : ℕ → Bool) (gap : IsGap p) (z : ℤ) (r : List ℕ) → IsCifNumber z → begins is_ascii_digit r ≡ false
    → number (skip p (32 ∷ signed_decimal z ++ r)) ≡ Ok (z, r)
number-skipped p gap z r near stop =
    ap number (skip-blank p (signed_decimal z ++ r) gap.blank (begins-signed p gap z r near)) ∙ number-signed z r near stop

pub positive-apart : (p : ℕ → Bool) (gap : IsGap p) (n : ℕ) (r : List ℕ) → IsPart n → begins is_ascii_digit r ≡ false
    → apart p positive (32 ∷ decimal n ++ r) ≡ Ok (n, r)
positive-apart p gap n r part stop =
    apart-blank p positive (decimal n ++ r) gap.blank (begins-decimal p gap n r part.high) ∙ positive-decimal n r part stop

pub positive-skipped : (p : ℕ → Bool) (gap : IsGap p) (n : ℕ) (r : List ℕ) → IsPart n → begins is_ascii_digit r ≡ false
    → positive (skip p (32 ∷ decimal n ++ r)) ≡ Ok (n, r)
positive-skipped p gap n r part stop =
    ap positive (skip-blank p (decimal n ++ r) gap.blank (begins-decimal p gap n r part.high)) ∙ positive-decimal n r part stop

pub natural-skipped : (p : ℕ → Bool) (gap : IsGap p) (n : ℕ) (r : List ℕ) → IsNatural n → begins is_ascii_digit r ≡ false
    → natural (skip p (32 ∷ decimal n ++ r)) ≡ Ok (n, r)
natural-skipped p gap n r near stop =
    ap natural (skip-blank p (decimal n ++ r) gap.blank (begins-decimal p gap n r near.high)) ∙ natural-decimal n r near stop
