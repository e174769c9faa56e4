-- the grammar: the lines of a model with what stands below them
use Rattle.std.specs.Prelude.{ℕ, ◌-◌, Bool, true, false, List, [], ◌∷◌, ◌++◌, Option, None, Some, not, codes, Result, Ok, Err, if◌then◌else◌}
use Rattle.std.specs.Str.{bytes_eq}
use Rattle.read_base.specs.Steps.{◌>>=◌}
use Rattle.blif_reader.specs.Parts.{Parts}
use Rattle.blif_reader.specs.Text.{begins}
use Rattle.blif_reader.specs.Tokens.{Spelled, Token, word}
use Rattle.blif_reader.specs.Words.{a_word, an_end, bad, from_line, is_next, is_word, pins, the_word, worded, words}
use Rattle.blif_reader.specs.declared.fault.BlifKind.{BlifKind}
use Rattle.blif_reader.specs.declared.fault.BlifKind.TheVariants as faults
use Rattle.blif_reader.specs.declared.file.BlifWord.{BlifWord}
use Rattle.blif_reader.specs.declared.file.Gate.{Gate}
use Rattle.blif_reader.specs.Flaws.{Flaw}

-- a line `.cname` with its name
unfoldable pub a_cname : ℕ → List Token → Result (BlifWord × List Token) Flaw
a_cname size ts = do
  opened ← the_word (codes ".cname") ts
  name ← a_word opened
  rest ← an_end name.1
  Ok (worded size name.0, rest)

-- the name that a `.cname` in the next line gives, if there is one
unfoldable pub name_below : ℕ → List Token → Result (Option BlifWord × List Token) Flaw
name_below size ts = if is_next (codes ".cname") (from_line ts) then (a_cname size (from_line ts) >>= λ x. Ok (Some x.0, x.1)) else Ok (None, ts)

-- a gate behind its keyword: its module, its pins, and its name in the next line
unfoldable pub gate_after : ℕ → List Token → Result (Gate × List Token) Flaw
gate_after size ts = do
  kind ← a_word ts
  ended ← pins size kind.1
  name ← name_below size ended.1
  Ok (record { «module» = kind.0.text; at = size - kind.0.left; name = name.0; pins = ended.0 }, name.1)

-- the lines before with this gate
unfoldable pub gate_line : ℕ → Parts → List Token → Result (Parts × List Token) Flaw
gate_line size parts ts = gate_after size ts >>= λ x. Ok (record parts { gates = parts.gates ++ x.0 ∷ [] }, x.1)

-- whether a row of a table comes next: a line that begins with no directive
abbrev pub is_row : List Token → Bool
is_row (word w ∷ ts) = not (begins 46 w.text)
is_row ts = false

-- what is read, or the table of this `.names` is at fault
abbrev pub or_table : {A : Type 0} → Spelled → Result A Flaw → Result A Flaw
or_table w (Ok x) = Ok x
or_table w (Err e) = bad faults.Table w

-- the row `1`
unfoldable pub one_row : List Token → Result (List Token) Flaw
one_row ts = do
  rest ← the_word (codes "1") ts
  an_end rest

-- the row `1 1`
unfoldable pub equal_row : List Token → Result (List Token) Flaw
equal_row ts = do
  rest ← the_word (codes "1") ts
  one_row rest

-- behind the word of a constant the line ends, and below stands no row, or the row `1`
unfoldable pub constant_end : List Token → Result (List Token) Flaw
constant_end ts = do
  ended ← an_end ts
  if is_row (from_line ended) then one_row (from_line ended) else Ok ended

-- behind the second of two words the line ends, and below stands the row `1 1`
unfoldable pub second_word : List Token → Result (Spelled × List Token) Flaw
second_word ts = do
  second ← a_word ts
  ended ← an_end second.1
  rest ← equal_row (from_line ended)
  Ok (second.0, rest)

-- whether no word comes next
abbrev pub ends_here : List Token → Bool
ends_here (word w ∷ ts) = false
ends_here ts = true

-- the table of the first word behind `.names`: it is a constant net, or the second word is the same net
unfoldable pub table_of : ℕ → Spelled → Parts → Spelled → List Token → Result (Parts × List Token) Flaw
table_of size w parts first ts =
    if ends_here ts then (or_table w (constant_end ts) >>= λ rest. Ok (record parts { constants = parts.constants ++ worded size first ∷ [] }, rest)) else
    (or_table w (second_word ts) >>= λ x. Ok (record parts { joins = parts.joins ++ record { first = worded size first; second = worded size x.0 } ∷ [] }, x.1))

-- the table behind a `.names`
unfoldable pub table_after : ℕ → Spelled → Parts → List Token → Result (Parts × List Token) Flaw
table_after size w parts ts = or_table w (a_word ts) >>= λ first. table_of size w parts first.0 first.1

-- what is wrong with a word that begins no line that is read
abbrev pub strange : List ℕ → BlifKind
strange text =
    if bytes_eq text (codes ".model") then faults.Model else
    if bytes_eq text (codes ".cname") then faults.Cname else
    if begins 46 text then faults.Directive else faults.Word

-- the line that this word begins, and what stands below it
unfoldable pub line_after : ℕ → Parts → Spelled → List Token → Result (Parts × List Token) Flaw
line_after size parts w ts =
    if is_word (codes ".inputs") w then Ok (record parts { inputs = parts.inputs ++ (words size ts).0 }, (words size ts).1) else
    if is_word (codes ".outputs") w then Ok (record parts { outputs = parts.outputs ++ (words size ts).0 }, (words size ts).1) else
    if is_word (codes ".gate") w then gate_line size parts ts else
    if is_word (codes ".names") w then table_after size w parts ts else
    bad (strange w.text) w
