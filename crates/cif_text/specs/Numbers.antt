-- the integers of a CIF text: digits, signs, the greatest magnitude, and the separators between two of them
use Rattle.std.specs.Prelude.{if◌then◌else◌, ℕ, zero, suc, ℤ, pos, neg_ℤ, List, [], ◌∷◌, length, Bool, ◌==◌, Option, Some, None, Result, Ok, Err}
use Rattle.std.specs.Str.{byte}
use Rattle.std.specs.Char.{is_ascii_digit}
use Rattle.limits.specs.declared.TheConstants.{MOST_NUMBER}
use Rattle.read_base.specs.Digits.{number_within}
use Rattle.cif_text.specs.declared.misfit.Misfit.{Misfit}
use Rattle.cif_text.specs.declared.misfit.Misfit.TheVariants.{TooGreat, Malformed}
use Rattle.read_base.specs.Steps.{◌>>=◌}
use Rattle.cif_text.specs.Bytes.{span, skip, begins}

-- the product's own: numbers have a magnitude of at most 1,000,000,000,000
abbrev pub greatest : ℕ
greatest = MOST_NUMBER

-- a number and the bytes behind it; one that is too great begins at this place
abbrev pub unless_great : ℕ → List ℕ → Option ℕ → Result (ℕ × List ℕ) Misfit
unless_great place rest (Some n) = Ok (n, rest)
unless_great place rest None = Err (TooGreat place)

-- the number of some digits that begin at this place, and the bytes behind them
abbrev pub value_of : ℕ → List ℕ → List ℕ → Result (ℕ × List ℕ) Misfit
value_of place [] rest = Err Malformed
value_of place (d ∷ ds) rest = unless_great place rest (number_within greatest (d ∷ ds))

abbrev pub value_at : ℕ → List ℕ × List ℕ → Result (ℕ × List ℕ) Misfit
value_at place found = value_of place found.0 found.1

-- CIF 2.0: an integer without a sign is one or more digits
unfoldable pub natural : List ℕ → Result (ℕ × List ℕ) Misfit
natural bytes = value_at (length bytes) (span is_ascii_digit bytes)

-- CIF 2.0: an integer with a sign has perhaps a `-` directly before its digits
unfoldable pub number : List ℕ → Result (ℤ × List ℕ) Misfit
number [] = Err Malformed
number (c ∷ cs) =
    if c == byte "-" then (value_at (length (c ∷ cs)) (span is_ascii_digit cs) >>= λ n. Ok (neg_ℤ (pos n.0), n.1))
    else (natural (c ∷ cs) >>= λ n. Ok (pos n.0, n.1))

-- zero is no length, no width and no part of a scale
abbrev pub above_zero : ℕ → List ℕ → Result (ℕ × List ℕ) Misfit
above_zero zero rest = Err Malformed
above_zero (suc n) rest = Ok (suc n, rest)

unfoldable pub positive : List ℕ → Result (ℕ × List ℕ) Misfit
positive bytes = natural bytes >>= λ n. above_zero n.0 n.1

-- CIF 2.0: between two numbers there is at least one separator
abbrev pub apart : {A : Type 0} → (ℕ → Bool) → (List ℕ → Result (A × List ℕ) Misfit) → List ℕ → Result (A × List ℕ) Misfit
apart p read bytes = if begins p bytes then read (skip p bytes) else Err Malformed
