-- bytes and what separates numbers
use Rattle.std.specs.Prelude.{if◌then◌else◌, ℕ, List, [], ◌∷◌, Bool, false, not, ◌&&◌, ◌||◌, ◌==◌, nat_le, nat_lt}
use Rattle.std.specs.Str.{byte}
use Rattle.std.specs.Char.{is_ascii_digit, is_ascii_uppercase}
use Rattle.std.specs.List.{list_all}

-- a byte of ASCII
abbrev pub is_ascii_byte : ℕ → Bool
is_ascii_byte c = nat_lt c 128

-- CIF 2.0: a blank is any character but a digit, an upper-case letter, `-`, `(`, `)` and `;`
abbrev pub is_blank : ℕ → Bool
is_blank c = not (is_ascii_digit c || is_ascii_uppercase c || c == byte "-" || c == byte "(" || c == byte ")" || c == byte ";")

-- CIF 2.0: a separator is a blank or an upper-case letter
abbrev pub is_separator : ℕ → Bool
is_separator c = is_ascii_uppercase c || is_blank c

-- CIF 2.0: what may stand before a command, blanks and semicolons
abbrev pub is_between : ℕ → Bool
is_between c = is_blank c || c == byte ";"

abbrev pub not_semicolon : ℕ → Bool
not_semicolon c = not (c == byte ";")

-- the product's own: white is what is left out at both ends of a user command's text
abbrev pub is_white : ℕ → Bool
is_white c = nat_le c 32 || c == 127

-- the longest front of such bytes, and the rest
abbrev pub span : (ℕ → Bool) → List ℕ → List ℕ × List ℕ
span p [] = ([], [])
span p (c ∷ cs) = if p c then (c ∷ (span p cs).0, (span p cs).1) else ([], c ∷ cs)

-- what follows the longest front of such bytes
abbrev pub skip : (ℕ → Bool) → List ℕ → List ℕ
skip p bytes = (span p bytes).1

-- the first byte, if there is one, is such
abbrev pub begins : (ℕ → Bool) → List ℕ → Bool
begins p [] = false
begins p (c ∷ cs) = p c

-- there are such bytes alone
abbrev pub ends : (ℕ → Bool) → List ℕ → Bool
ends p bytes = list_all p bytes

-- the text without the white at its end
abbrev pub without_tail : List ℕ → List ℕ
without_tail [] = []
without_tail (c ∷ cs) = if is_white c && list_all is_white cs then [] else c ∷ without_tail cs

-- the text without the white at both ends
abbrev pub trimmed : List ℕ → List ℕ
trimmed text = without_tail (skip is_white text)
