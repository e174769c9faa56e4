-- lengths in microns, with three decimals
use Rattle.std.specs.Prelude.{ℕ, ℤ, pos, negsuc, ◌+◌, ◌*◌, ◌/◌, ◌%◌, List, [], ◌∷◌, ◌++◌, codes, unsigned_abs}
use Rattle.std.specs.Fmt.{decimal}

-- the last digit of a number
abbrev pub digit : ℕ → ℕ
digit n = 48 + n % 10

-- a point and three decimals, of so many thousandths
abbrev pub fraction : ℕ → List ℕ
fraction n = 46 ∷ digit (n / 100) ∷ digit (n / 10) ∷ digit n ∷ []

abbrev pub sign : ℤ → List ℕ
sign (pos n) = []
sign (negsuc n) = codes "-"

-- so many half centimicrons, of which a micron has 200, and each has 5 thousandths of one
unfoldable pub size_text : ℕ → List ℕ
size_text n = decimal (n / 200) ++ fraction (n % 200 * 5)

unfoldable pub microns : ℤ → List ℕ
microns z = sign z ++ size_text (unsigned_abs z)
