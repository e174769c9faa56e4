-- the text of lines
use Rattle.std.specs.Prelude.{ℕ, List, [], ◌∷◌, ◌++◌}
use Rattle.shelf_io.specs.Lines.{line}

-- each as a line of one word: with a line feed behind it
abbrev pub lines_text : List (List ℕ) → List ℕ
lines_text [] = []
lines_text (text ∷ more) = line (text ∷ []) ++ lines_text more
