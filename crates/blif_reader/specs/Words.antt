-- the grammar: words and the ends of lines
use Rattle.std.specs.Prelude.{ℕ, ◌-◌, Bool, true, false, List, [], ◌∷◌, length, take, drop, not, nat_lt, ◌==◌, Result, Ok, Err, if◌then◌else◌}
use Rattle.std.specs.List.{prefix_len}
use Rattle.std.specs.Str.{bytes_eq}
use Rattle.read_base.specs.Steps.{◌>>=◌}
use Rattle.blif_reader.specs.Tokens.{Spelled, Token, word, line_end}
use Rattle.blif_reader.specs.declared.fault.BlifKind.{BlifKind}
use Rattle.blif_reader.specs.declared.fault.BlifKind.TheVariants as faults
use Rattle.blif_reader.specs.declared.file.BlifWord.{BlifWord}
use Rattle.blif_reader.specs.declared.file.Pin.{Pin}
use Rattle.blif_reader.specs.Flaws.{Flaw}

-- no reading goes on here: the text ends, or what stands first is none of the grammar's
abbrev pub flaw_here : List Token → Flaw
flaw_here [] = record { kind = faults.Ends; left = 0 }
flaw_here (word w ∷ ts) = record { kind = faults.Word; left = w.left }
flaw_here (line_end left ∷ ts) = record { kind = faults.Word; left = left }

-- that no reading goes on here
abbrev pub fails : {A : Type 0} → List Token → Result A Flaw
fails ts = Err (flaw_here ts)

-- this word is at fault
abbrev pub bad : {A : Type 0} → BlifKind → Spelled → Result A Flaw
bad kind w = Err (record { kind = kind; left = w.left })

-- a word, and what follows it
abbrev pub a_word : List Token → Result (Spelled × List Token) Flaw
a_word (word w ∷ ts) = Ok (w, ts)
a_word ts = fails ts

-- what follows a line feed
abbrev pub a_feed : List Token → Result (List Token) Flaw
a_feed (line_end left ∷ ts) = Ok ts
a_feed ts = fails ts

-- what follows a line, which ends here; the last line ends with the text
abbrev pub an_end : List Token → Result (List Token) Flaw
an_end [] = Ok []
an_end (t ∷ ts) = a_feed (t ∷ ts)

-- lines without words are passed over
abbrev pub from_line : List Token → List Token
from_line (line_end left ∷ ts) = from_line ts
from_line ts = ts

-- whether the text ends here
abbrev pub is_empty : List Token → Bool
is_empty [] = true
is_empty (t ∷ ts) = false

-- whether a word is this one
abbrev pub is_word : List ℕ → Spelled → Bool
is_word text w = bytes_eq w.text text

-- whether this word comes next
abbrev pub is_next : List ℕ → List Token → Bool
is_next text (word w ∷ ts) = is_word text w
is_next text ts = false

-- what follows this word, which stands here
unfoldable pub the_word : List ℕ → List Token → Result (List Token) Flaw
the_word text ts = do
  first ← a_word ts
  if is_word text first.0 then Ok first.1 else bad faults.Word first.0

-- a word with its place in a text of so many bytes
abbrev pub worded : ℕ → Spelled → BlifWord
worded size w = record { text = w.text; at = size - w.left }

-- the words of a line, and what follows it
unfoldable pub words : ℕ → List Token → List BlifWord × List Token
words size [] = ([], [])
words size (line_end left ∷ ts) = ([], ts)
words size (word w ∷ ts) = (worded size w ∷ (words size ts).0, (words size ts).1)

-- all bytes but `=`
abbrev pub is_no_equals : ℕ → Bool
is_no_equals c = not (c == 61)

-- the pin of a terminal and of what stands behind it, which are the `=` and a net; both have bytes
abbrev pub pin_with : ℕ → Spelled → List ℕ → List ℕ → Result Pin Flaw
pin_with size w terminal behind =
    if length terminal == 0 then bad faults.Pin w else
    if nat_lt (length behind) 2 then bad faults.Pin w else Ok (record { terminal = terminal; net = drop 1 behind; at = size - w.left })

-- a pin: a terminal and a net, parted by the first `=`
unfoldable pub a_pin : ℕ → Spelled → Result Pin Flaw
a_pin size w = pin_with size w (take (prefix_len is_no_equals w.text) w.text) (drop (prefix_len is_no_equals w.text) w.text)

-- the pins of a line, and what follows it
unfoldable pub pins : ℕ → List Token → Result (List Pin × List Token) Flaw
pins size [] = Ok ([], [])
pins size (line_end left ∷ ts) = Ok ([], ts)
pins size (word w ∷ ts) = do
  pin ← a_pin size w
  others ← pins size ts
  Ok (pin ∷ others.0, others.1)
