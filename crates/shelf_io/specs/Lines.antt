-- lines of words
use Rattle.std.specs.Prelude.{ℕ, List, [], ◌∷◌, ◌++◌, codes}
use Rattle.std.specs.Fmt.{decimal}
use Rattle.shelf_io.specs.declared.line.LineWord.{LineWord}
use Rattle.shelf_io.specs.declared.line.LineWord.TheVariants.{Text, Number}

-- what stands after a word: a blank where more words follow, else a line feed
abbrev pub word_end : List (List ℕ) → List ℕ
word_end [] = codes "\n"
word_end (word ∷ words) = codes " "

-- a line of words
abbrev pub line : List (List ℕ) → List ℕ
line [] = []
line (word ∷ words) = word ++ word_end words ++ line words

-- the bytes of a word
abbrev pub word_text : LineWord → List ℕ
word_text (Text bytes) = bytes.now
word_text (Number n) = decimal n
