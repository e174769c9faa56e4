-- a word of the text as the grammar takes it, and texts that begin with a blank
use Rattle.std.specs.Prelude.{ℕ, Bool, false, List, [], ◌∷◌}
use Rattle.blif_reader.specs.Tokens.{Spelled, is_blank}
use Rattle.blif_reader.specs.declared.word.Word.{Word}

-- a word as the grammar sees it
abbrev pub seen : Word → Spelled
seen w = record { text = w.text.now; left = w.left }

-- whether a blank stands first
abbrev pub begins_blank : List ℕ → Bool
begins_blank [] = false
begins_blank (c ∷ cs) = is_blank c
