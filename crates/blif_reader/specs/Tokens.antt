-- words and the ends of lines with their places
use Rattle.std.specs.Prelude.{ℕ, Bool, false, List, [], ◌∷◌, length, not, ◌==◌, ◌&&◌, ◌||◌, if◌then◌else◌}

-- a word, and how many bytes are left from its first one on
pub record Spelled : Type 0 where
  pub text : List ℕ
  pub left : ℕ

-- a word of this text
abbrev pub spelled : List ℕ → ℕ → Spelled
spelled text left = record { text = text; left = left }

-- what a text is made of: words and the ends of lines, each with what is left from it on
pub data Token : Type 0 where
  word : Spelled → Token
  line_end : ℕ → Token

-- blanks and tabs part words
abbrev pub is_blank : ℕ → Bool
is_blank c = c == 9 || c == 32

-- all other bytes but the line feed make words
abbrev pub is_word_byte : ℕ → Bool
is_word_byte c = not (is_blank c) && not (c == 10)

-- whether the next byte belongs to the same word
abbrev pub goes_on : List ℕ → Bool
goes_on [] = false
goes_on (c ∷ cs) = is_word_byte c

-- a byte at the front of the word that stands first
abbrev pub onto_word : ℕ → ℕ → List Token → List Token
onto_word c left (word w ∷ ts) = word (spelled (c ∷ w.text) left) ∷ ts
onto_word c left _ = word (spelled (c ∷ []) left) ∷ []

-- a byte at the front of the text cs, whose tokens are ts
abbrev pub token_onto : ℕ → List ℕ → List Token → List Token
token_onto c cs ts =
    if is_blank c then ts else
    if c == 10 then line_end (length (c ∷ cs)) ∷ ts else
    if goes_on cs then onto_word c (length (c ∷ cs)) ts else word (spelled (c ∷ []) (length (c ∷ cs))) ∷ ts

-- the words and the ends of lines of a text in order
unfoldable pub tokens : List ℕ → List Token
tokens [] = []
tokens (c ∷ cs) = token_onto c cs (tokens cs)
