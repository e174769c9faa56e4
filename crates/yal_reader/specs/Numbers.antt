-- the numbers of a YAL text, up to 100,000,000 units, and lists of them up to a semicolon
use Rattle.std.specs.Prelude.{ℕ, ◌-◌, ℤ, pos, neg_ℤ, Bool, List, [], ◌∷◌, ◌++◌, length, take, drop, replicate, Option, None, Result, Ok, option_map, not, ◌==◌, if◌then◌else◌}
use Rattle.std.specs.List.{list_all, prefix_len}
use Rattle.limits.specs.declared.TheConstants.{MOST_COORDINATE}
use Rattle.read_base.specs.Digits.{number_within}
use Rattle.read_base.specs.Steps.{◌>>=◌}
use Rattle.yal_reader.specs.Tokens.{Token, word, semicolon}
use Rattle.yal_reader.specs.Words.{a_word, or_bad, fails}
use Rattle.yal_reader.specs.declared.fault.YalKind.TheVariants as faults
use Rattle.yal_reader.specs.declared.notation.Numbers.{Numbers}
use Rattle.yal_reader.specs.declared.notation.Numbers.TheVariants.{Whole, Decimal}
use Rattle.yal_reader.specs.Flaws.{Flaw}

-- whole numbers under rules of version 1, and numbers with so many decimals from version 2 on
abbrev pub numbers_of : ℕ → ℕ → Numbers
numbers_of version decimals = if version == 1 then Whole else Decimal decimals

-- the digit 0
abbrev pub is_zero : ℕ → Bool
is_zero c = c == 48

-- all bytes but the point
abbrev pub is_no_point : ℕ → Bool
is_no_point c = not (c == 46)

-- the number that one or more digits write, if it is at most 100,000,000
abbrev pub whole_number : List ℕ → Option ℕ
whole_number digits = if length digits == 0 then None else number_within MOST_COORDINATE digits

-- the first so many digits of a fraction, and a 0 for each that is not written
abbrev pub places : ℕ → List ℕ → List ℕ
places decimals fraction = take decimals fraction ++ replicate (decimals - length fraction) 48

-- the number that one or more digits and so many places of a fraction write, if it is at most 100,000,000; the fraction has no digit but 0 past these
unfoldable pub in_units : ℕ → List ℕ → List ℕ → Option ℕ
in_units decimals whole fraction =
    if length whole == 0 then None else
    if list_all is_zero (drop decimals fraction) then number_within MOST_COORDINATE (whole ++ places decimals fraction) else None

-- digits, and what stands from the first point on: nothing, or the point and one or more digits
unfoldable pub pointed : ℕ → List ℕ → List ℕ → Option ℕ
pointed decimals whole [] = in_units decimals whole []
pointed decimals whole (point ∷ []) = None
pointed decimals whole (point ∷ c ∷ cs) = in_units decimals whole (c ∷ cs)

-- a number without a sign
unfoldable pub magnitude : Numbers → List ℕ → Option ℕ
magnitude Whole text = whole_number text
magnitude (Decimal decimals) text = pointed decimals (take (prefix_len is_no_point text) text) (drop (prefix_len is_no_point text) text)

-- a number, perhaps behind a minus sign
unfoldable pub number : Numbers → List ℕ → Option ℤ
number numbers [] = None
number numbers (c ∷ cs) =
    if c == 45 then option_map (λ n. neg_ℤ (pos n)) (magnitude numbers cs) else option_map (λ n. pos n) (magnitude numbers (c ∷ cs))

-- a number, and what follows it
unfoldable pub a_number : Numbers → List Token → Result (ℤ × List Token) Flaw
a_number numbers ts = do
  first ← a_word ts
  n ← or_bad faults.Number first.0 (number numbers first.0.text)
  Ok (n, first.1)

-- the numbers up to a semicolon, and what follows it
unfoldable pub number_run : Numbers → List Token → Result (List ℤ × List Token) Flaw
number_run numbers [] = fails []
number_run numbers (semicolon left ∷ ts) = Ok ([], ts)
number_run numbers (word w ∷ ts) = do
  n ← or_bad faults.Number w (number numbers w.text)
  others ← number_run numbers ts
  Ok (n ∷ others.0, others.1)
