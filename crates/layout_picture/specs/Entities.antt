-- names as text of XML
use Rattle.std.specs.Prelude.{ℕ, List, [], ◌∷◌, ◌++◌, ◌==◌, cond, codes}
use Rattle.note_text.specs.Shown.{shown}

-- a character: what has a meaning in XML stands as its entity
abbrev pub entity : ℕ → List ℕ
entity c =
    cond (c == 34) (codes "&quot;") (cond (c == 38) (codes "&amp;") (cond (c == 39) (codes "&apos;")
    (cond (c == 60) (codes "&lt;") (cond (c == 62) (codes "&gt;") (c ∷ [])))))

-- bytes as they are shown, each so
unfoldable pub entities : List ℕ → List ℕ
entities [] = []
entities (byte ∷ more) = entity (shown byte) ++ entities more
