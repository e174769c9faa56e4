-- bytes between the quotes of a text value, in XML
use Rattle.std.specs.Prelude.{ℕ, List, [], ◌∷◌, ◌++◌, ◌==◌, ◌&&◌, Bool, cond, codes, nat_le, not}
use Rattle.note_text.specs.Shown.{shown}

-- a character: a quote and a backslash stand behind a backslash, and what has a meaning in XML stands as its entity
abbrev pub quoted : ℕ → List ℕ
quoted c =
    cond (c == 34) (codes "&quot;") (cond (c == 38) (codes "&amp;") (cond (c == 39) (codes "\\&apos;")
    (cond (c == 60) (codes "&lt;") (cond (c == 62) (codes "&gt;") (cond (c == 92) (codes "\\\\") (c ∷ []))))))

-- bytes as they are shown, each so
unfoldable pub escaped : List ℕ → List ℕ
escaped [] = []
escaped (byte ∷ more) = quoted (shown byte) ++ escaped more

-- a character of ASCII that shows, or a blank, which neither begins nor ends an element of XML, nor a text in quotes
abbrev pub is_plain : ℕ → Bool
is_plain c = nat_le 32 c && nat_le c 126 && not (c == 34) && not (c == 39) && not (c == 60) && not (c == 62)
