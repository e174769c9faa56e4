-- the grammar of the sections of a module up to ENDMODULE, of which three are kept and the others passed over
use Rattle.std.specs.Prelude.{ℕ, zero, suc, ℤ, Bool, List, [], Option, None, Some, Result, Ok, is_some, codes, true, if◌then◌else◌}
use Rattle.yal_reader.specs.Kept.{is_standard}
use Rattle.yal_reader.specs.Lists.{io_list, network, without_items}
use Rattle.yal_reader.specs.Numbers.{number_run}
use Rattle.read_base.specs.Steps.{◌>>=◌}
use Rattle.yal_reader.specs.Tokens.{Spelled, Token}
use Rattle.yal_reader.specs.Words.{a_word, an_end, after_stop, bad, is_word, past_words, spells, statement, fails}
use Rattle.yal_reader.specs.declared.fault.YalKind.TheVariants as faults
use Rattle.yal_reader.specs.declared.file.Kind.{Kind}
use Rattle.yal_reader.specs.declared.notation.Numbers.{Numbers}
use Rattle.yal_reader.specs.declared.parts.Parts.{Parts}
use Rattle.yal_reader.specs.Flaws.{Flaw}

-- a section that stood before is at fault at its keyword, whatever follows
abbrev pub once : {A B : Type 0} → Option A → Spelled → Result B Flaw → Result B Flaw
once there w read = if is_some there then bad faults.Twice w else read

-- DIMENSIONS behind its keyword: numbers in a STANDARD module, in the others any words
unfoldable pub dimensions : Numbers → Kind → List Token → Result (List ℤ × List Token) Flaw
dimensions numbers kind ts = if is_standard kind then number_run numbers ts else without_items (past_words ts)

-- the parts with the corners of this section
unfoldable pub corners_after : Numbers → Kind → Parts → Spelled → List Token → Result (Parts × List Token) Flaw
corners_after numbers kind parts w ts = once parts.corners w (dimensions numbers kind ts >>= λ x. Ok (record parts { corners = Some x.0 }, x.1))

-- the parts with the lines of this section
unfoldable pub lines_after : Numbers → ℕ → Kind → Parts → Spelled → List Token → Result (Parts × List Token) Flaw
lines_after numbers n kind parts w ts = once parts.lines w (io_list numbers n kind ts >>= λ x. Ok (record parts { lines = Some x.0 }, x.1))

-- the parts with the calls of this section
unfoldable pub calls_after : ℕ → Kind → Parts → Spelled → List Token → Result (Parts × List Token) Flaw
calls_after n kind parts w ts = once parts.calls w (network n kind ts >>= λ x. Ok (record parts { calls = Some x.0 }, x.1))

-- what follows this keyword as the first word of a later statement, and its semicolon
unfoldable pub passed_until : List ℕ → List Token → Result (List Token) Flaw
passed_until keyword ts = do
  rest ← past_words ts
  stop ← after_stop keyword true rest
  an_end stop

-- keywords of sections of one statement that are passed over
abbrev pub passes_words : List ℕ → Bool
passes_words text = if spells (codes "PROFILE") text then true else if spells (codes "CURRENT") text then true else spells (codes "VOLTAGE") text

-- a section that is passed over
unfoldable pub passed_after : Spelled → List Token → Result (List Token) Flaw
passed_after w ts =
    if passes_words w.text then past_words ts else
    if is_word (codes "PLACEMENT") w then passed_until (codes "ENDPLACEMENT") ts else
    if is_word (codes "CRITICALNETS") w then passed_until (codes "ENDCRITICALNETS") ts else
    bad faults.Word w

-- the section that this word begins
unfoldable pub section_after : Numbers → ℕ → Kind → Parts → Spelled → List Token → Result (Parts × List Token) Flaw
section_after numbers n kind parts w ts =
    if is_word (codes "DIMENSIONS") w then corners_after numbers kind parts w ts else
    if is_word (codes "IOLIST") w then lines_after numbers n kind parts w ts else
    if is_word (codes "NETWORK") w then calls_after n kind parts w ts else
    passed_after w ts >>= λ rest. Ok (parts, rest)

-- the sections in any order, at most n of them, up to ENDMODULE and its semicolon
unfoldable pub sections : Numbers → ℕ → Kind → Parts → List Token → Result (Parts × List Token) Flaw
sections numbers zero kind parts ts = fails []
sections numbers (suc n) kind parts ts = do
  first ← a_word (statement ts)
  if is_word (codes "ENDMODULE") first.0 then (an_end first.1 >>= λ rest. Ok (parts, rest)) else do
    more ← section_after numbers n kind parts first.0 first.1
    sections numbers n kind more.0 more.1

-- a module before its first section
abbrev pub no_parts : Parts
no_parts = record { corners = None; lines = None; calls = None }

-- the items of a section, or none where it does not stand
abbrev pub items_of : {A : Type 0} → Option (List A) → List A
items_of None = []
items_of (Some xs) = xs
