-- the grammar of IOLIST and NETWORK: spots, lines of terminals, and calls
use Rattle.std.specs.Prelude.{ℕ, zero, suc, Bool, true, List, [], ◌∷◌, ◌++◌, Option, None, Some, Result, Ok, ◌||◌, codes, if◌then◌else◌}
use Rattle.std.specs.List.{list_any}
use Rattle.std.specs.Str.{bytes_eq}
use Rattle.yal_reader.specs.Kept.{is_standard, is_parent, has_spot, call_names}
use Rattle.yal_reader.specs.Numbers.{a_number}
use Rattle.read_base.specs.Steps.{◌>>=◌}
use Rattle.yal_reader.specs.Tokens.{Spelled, Token}
use Rattle.yal_reader.specs.Words.{a_word, an_end, a_flow, after_stop, bad, is_word, past_words, statement, fails, words}
use Rattle.yal_reader.specs.declared.fault.YalKind.TheVariants as faults
use Rattle.yal_reader.specs.declared.file.Kind.{Kind}
use Rattle.yal_reader.specs.declared.notation.Numbers.{Numbers}
use Rattle.yal_reader.specs.declared.file.Flow.{Flow}
use Rattle.yal_reader.specs.declared.file.Spot.{Spot}
use Rattle.yal_reader.specs.declared.file.Line.{Line}
use Rattle.yal_reader.specs.declared.file.Call.{Call}
use Rattle.yal_reader.specs.Flaws.{Flaw}

-- the statements up to this keyword, at most n of them, behind those found before; an item is read from its first word on
unfoldable pub items_until : {A : Type 0} → List ℕ → (List A → Spelled → List Token → Result (A × List Token) Flaw) → ℕ → List A → List Token → Result (List A × List Token) Flaw
items_until keyword item zero before ts = fails []
items_until keyword item (suc n) before ts = do
  first ← a_word (statement ts)
  if is_word keyword first.0 then Ok (before, first.1) else do
    one ← item before first.0 first.1
    items_until keyword item n (before ++ one.0 ∷ []) one.1

-- no items, where all was passed over
abbrev pub without_items : {A : Type 0} → Result (List Token) Flaw → Result (List A × List Token) Flaw
without_items passed = passed >>= λ rest. Ok ([], rest)

-- x and y, a width that is any word, and the layer's word
unfoldable pub a_spot : Numbers → List Token → Result (Spot × List Token) Flaw
a_spot numbers ts = do
  x ← a_number numbers ts
  y ← a_number numbers x.1
  width ← a_word y.1
  layer ← a_word width.1
  Ok (record { x = x.0; y = y.0; layer = layer.0.text }, layer.1)

-- a spot stands in the lines of STANDARD modules whose flow is no power
unfoldable pub spot_after : Numbers → Kind → Flow → List Token → Result (Option Spot × List Token) Flaw
spot_after numbers kind flow ts = if has_spot kind flow then (a_spot numbers ts >>= λ x. Ok (Some x.0, x.1)) else Ok (None, ts)

-- a terminal's line behind its name; further words are passed over
unfoldable pub line_after : Numbers → Kind → Spelled → List Token → Result (Line × List Token) Flaw
line_after numbers kind name ts = do
  flow ← a_flow ts
  spot ← spot_after numbers kind flow.0 flow.1
  rest ← past_words spot.1
  Ok (record { name = name.text; flow = flow.0; spot = spot.0 }, rest)

-- the lines up to ENDIOLIST
abbrev pub lines_until : Numbers → Kind → ℕ → List Line → List Token → Result (List Line × List Token) Flaw
lines_until numbers kind = items_until (codes "ENDIOLIST") (λ _. line_after numbers kind)

-- lines are kept in STANDARD and PARENT modules
abbrev pub keeps_lines : Kind → Bool
keeps_lines kind = is_standard kind || is_parent kind

-- the lines up to ENDIOLIST where they are kept
unfoldable pub lines_of : Numbers → ℕ → Kind → List Token → Result (List Line × List Token) Flaw
lines_of numbers n kind ts = if keeps_lines kind then lines_until numbers kind n [] ts else without_items (after_stop (codes "ENDIOLIST") true ts)

-- IOLIST behind its keyword
unfoldable pub io_list : Numbers → ℕ → Kind → List Token → Result (List Line × List Token) Flaw
io_list numbers n kind ts = do
  opened ← an_end ts
  found ← lines_of numbers n kind opened
  rest ← an_end found.1
  Ok (found.0, rest)

-- whether a name is among these
abbrev pub is_among : List (List ℕ) → List ℕ → Bool
is_among names name = list_any (bytes_eq name) names

-- a name that was taken before is at fault, whatever follows
abbrev pub unless_taken : {A : Type 0} → List (List ℕ) → Spelled → Result A Flaw → Result A Flaw
unless_taken names name read = if is_among names name.text then bad faults.Twice name else read

-- a call behind its name: the module's word, and the signals
unfoldable pub call_after : List (List ℕ) → Spelled → List Token → Result (Call × List Token) Flaw
call_after names name ts = unless_taken names name do
  kind ← a_word ts
  signals ← words kind.1
  Ok (record { name = name.text; «module» = kind.0.text; signals = signals.0 }, signals.1)

-- the calls up to ENDNETWORK
abbrev pub calls_until : ℕ → List Call → List Token → Result (List Call × List Token) Flaw
calls_until = items_until (codes "ENDNETWORK") (λ calls. call_after (call_names calls))

-- calls are kept in PARENT modules
unfoldable pub calls_of : ℕ → Kind → List Token → Result (List Call × List Token) Flaw
calls_of n kind ts = if is_parent kind then calls_until n [] ts else without_items (after_stop (codes "ENDNETWORK") true ts)

-- NETWORK behind its keyword
unfoldable pub network : ℕ → Kind → List Token → Result (List Call × List Token) Flaw
network n kind ts = do
  opened ← an_end ts
  found ← calls_of n kind opened
  rest ← an_end found.1
  Ok (found.0, rest)
