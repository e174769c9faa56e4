-- the ASCII test, and comments as blanks
use Rattle.std.specs.Prelude.{ℕ, Bool, false, List, [], ◌∷◌, ◌++◌, length, Option, None, Some, Result, Ok, Err, nat_lt, ◌==◌, ◌&&◌, if◌then◌else◌}
use Rattle.read_base.specs.Steps.{◌>>=◌}
use Rattle.yal_reader.specs.declared.fault.YalKind.TheVariants as kinds
use Rattle.yal_reader.specs.Flaws.{Flaw}

-- each byte is ASCII
abbrev pub ascii : List ℕ → Result (Unit {0}) Flaw
ascii [] = Ok tt
ascii (c ∷ cs) = if nat_lt c 128 then ascii cs else Err (record { kind = kinds.NotAscii; left = length (c ∷ cs) })

-- a text with this byte in front
abbrev pub onto : ℕ → Result (List ℕ) Flaw → Result (List ℕ) Flaw
onto c text = text >>= λ cs. Ok (c ∷ cs)

-- a text with these bytes in front
abbrev pub with_text : List ℕ → Result (List ℕ) Flaw → Result (List ℕ) Flaw
with_text front text = text >>= λ cs. Ok (front ++ cs)

-- a comment that has no end, with so many bytes left from its first one on
abbrev pub open_comment : ℕ → Result (List ℕ) Flaw
open_comment left = Err (record { kind = kinds.OpenComment; left = left })

-- the text with each byte of a comment as a blank; the first argument says where a comment begins that is open here
unfoldable pub uncommented : Option ℕ → List ℕ → Result (List ℕ) Flaw
uncommented None [] = Ok []
uncommented None (c ∷ []) = Ok (c ∷ [])
uncommented None (c ∷ d ∷ cs) =
    if c == 47 && d == 42 then onto 32 (onto 32 (uncommented (Some (length (c ∷ d ∷ cs))) cs)) else onto c (uncommented None (d ∷ cs))
uncommented (Some left) [] = open_comment left
uncommented (Some left) (c ∷ []) = open_comment left
uncommented (Some left) (c ∷ d ∷ cs) = if c == 42 && d == 47 then onto 32 (onto 32 (uncommented None cs)) else onto 32 (uncommented (Some left) (d ∷ cs))

-- whether these two bytes stand first
abbrev pub begins_with : ℕ → ℕ → List ℕ → Bool
begins_with a b [] = false
begins_with a b (c ∷ []) = false
begins_with a b (c ∷ d ∷ cs) = c == a && d == b
