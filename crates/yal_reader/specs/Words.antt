-- the grammar: words, numbers, the lists of lines and calls, sections
use Rattle.std.specs.Prelude.{ℕ, Bool, true, false, List, [], ◌∷◌, Option, None, Some, Result, Ok, Err, codes, if◌then◌else◌, ◌&&◌}
use Rattle.std.specs.Str.{str_eq_ignore_ascii_case}
use Rattle.read_base.specs.Steps.{◌>>=◌}
use Rattle.yal_reader.specs.Tokens.{Spelled, Token, word, semicolon}
use Rattle.yal_reader.specs.declared.fault.YalKind.{YalKind}
use Rattle.yal_reader.specs.declared.fault.YalKind.TheVariants as faults
use Rattle.yal_reader.specs.declared.file.Kind.{Kind}
use Rattle.yal_reader.specs.declared.file.Kind.TheVariants as kinds
use Rattle.yal_reader.specs.declared.file.Flow.{Flow}
use Rattle.yal_reader.specs.declared.file.Flow.TheVariants as flows
use Rattle.yal_reader.specs.Flaws.{Flaw}

-- no reading goes on here: the text ends, or what stands first is none of the grammar's
abbrev pub flaw_here : List Token → Flaw
flaw_here [] = record { kind = faults.Ends; left = 0 }
flaw_here (word w ∷ ts) = record { kind = faults.Word; left = w.left }
flaw_here (semicolon left ∷ ts) = record { kind = faults.Word; left = left }

-- that no reading goes on here
abbrev pub fails : {A : Type 0} → List Token → Result A Flaw
fails ts = Err (flaw_here ts)

-- this word is at fault
abbrev pub bad : {A : Type 0} → YalKind → Spelled → Result A Flaw
bad kind w = Err (record { kind = kind; left = w.left })

-- what was found, or the word is at fault
abbrev pub or_bad : {A : Type 0} → YalKind → Spelled → Option A → Result A Flaw
or_bad kind w (Some x) = Ok x
or_bad kind w None = bad kind w

-- a word, and what follows it
abbrev pub a_word : List Token → Result (Spelled × List Token) Flaw
a_word (word w ∷ ts) = Ok (w, ts)
a_word ts = fails ts

-- what follows a semicolon
abbrev pub an_end : List Token → Result (List Token) Flaw
an_end (semicolon left ∷ ts) = Ok ts
an_end ts = fails ts

-- a statement without words is passed over
abbrev pub statement : List Token → List Token
statement (semicolon left ∷ ts) = statement ts
statement ts = ts

-- whether the text ends here
abbrev pub is_empty : List Token → Bool
is_empty [] = true
is_empty (t ∷ ts) = false

-- the words up to a semicolon, and what follows it
unfoldable pub words : List Token → Result (List (List ℕ) × List Token) Flaw
words [] = fails []
words (semicolon left ∷ ts) = Ok ([], ts)
words (word w ∷ ts) = words ts >>= λ others. Ok (w.text ∷ others.0, others.1)

-- what follows the next semicolon
abbrev pub past_words : List Token → Result (List Token) Flaw
past_words [] = fails []
past_words (semicolon left ∷ ts) = Ok ts
past_words (word w ∷ ts) = past_words ts

-- keywords ignore the case of letters
abbrev pub spells : List ℕ → List ℕ → Bool
spells keyword text = str_eq_ignore_ascii_case text keyword

-- whether a word is this keyword
abbrev pub is_word : List ℕ → Spelled → Bool
is_word keyword w = spells keyword w.text

-- what follows this keyword, which stands here
unfoldable pub the_word : List ℕ → List Token → Result (List Token) Flaw
the_word keyword ts = do
  first ← a_word ts
  if is_word keyword first.0 then Ok first.1 else bad faults.Word first.0

-- what follows this keyword as the first word of a statement; start says whether a statement begins here
unfoldable pub after_stop : List ℕ → Bool → List Token → Result (List Token) Flaw
after_stop keyword start [] = fails []
after_stop keyword start (semicolon left ∷ ts) = after_stop keyword true ts
after_stop keyword start (word w ∷ ts) = if start && is_word keyword w then Ok ts else after_stop keyword false ts

-- the type that a word names
abbrev pub kind_of : List ℕ → Option Kind
kind_of text =
    if spells (codes "STANDARD") text then Some kinds.Standard else
    if spells (codes "PAD") text then Some kinds.Pad else
    if spells (codes "GENERAL") text then Some kinds.General else
    if spells (codes "PARENT") text then Some kinds.Parent else None

-- a type of modules, and what follows it
unfoldable pub a_kind : List Token → Result (Kind × List Token) Flaw
a_kind ts = do
  first ← a_word ts
  kind ← or_bad faults.Word first.0 (kind_of first.0.text)
  Ok (kind, first.1)

-- the flow that a word names
abbrev pub flow_of : List ℕ → Option Flow
flow_of text =
    if spells (codes "I") text then Some flows.I else
    if spells (codes "O") text then Some flows.O else
    if spells (codes "B") text then Some flows.B else
    if spells (codes "PI") text then Some flows.PI else
    if spells (codes "PO") text then Some flows.PO else
    if spells (codes "PB") text then Some flows.PB else
    if spells (codes "F") text then Some flows.F else
    if spells (codes "PWR") text then Some flows.PWR else
    if spells (codes "GND") text then Some flows.GND else None

-- a flow, and what follows it
unfoldable pub a_flow : List Token → Result (Flow × List Token) Flaw
a_flow ts = do
  first ← a_word ts
  flow ← or_bad faults.Word first.0 (flow_of first.0.text)
  Ok (flow, first.1)
