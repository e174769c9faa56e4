-- what a BLIF text is read as, from its bytes to its file
use Rattle.std.specs.Prelude.{ℕ, zero, suc, List, [], ◌∷◌, length, Option, None, Some, Result, Ok, codes, if◌then◌else◌}
use Rattle.read_base.specs.Placed.{placed}
use Rattle.read_base.specs.Steps.{◌>>=◌}
use Rattle.blif_reader.specs.Lines.{line_after}
use Rattle.blif_reader.specs.Parts.{Parts, no_parts}
use Rattle.blif_reader.specs.Text.{cleaned, fitting}
use Rattle.blif_reader.specs.Tokens.{Spelled, Token, tokens, word}
use Rattle.blif_reader.specs.Words.{a_word, an_end, bad, fails, from_line, is_word, the_word, worded}
use Rattle.blif_reader.specs.declared.fault.BlifFault.{BlifFault}
use Rattle.blif_reader.specs.declared.fault.BlifFault.TheVariants.{Bad, Memory}
use Rattle.blif_reader.specs.declared.fault.BlifKind.{BlifKind}
use Rattle.blif_reader.specs.declared.fault.BlifKind.TheVariants as faults
use Rattle.blif_reader.specs.declared.plain.Within.TheVariants.{Line}
use Rattle.blif_reader.specs.declared.file.BlifWord.{BlifWord}
use Rattle.blif_reader.specs.declared.file.BlifFile.{BlifFile}
use Rattle.blif_reader.specs.Flaws.{Flaw}

-- behind the model nothing stands, and no second one
abbrev pub nothing : List Token → Result (Unit {0}) Flaw
nothing (word w ∷ ts) = bad (if is_word (codes ".model") w then faults.Model else faults.Word) w
nothing ts = Ok tt

-- the end of the model behind its keyword
unfoldable pub closed : List Token → Result (Unit {0}) Flaw
closed ts = do
  rest ← an_end ts
  nothing (from_line rest)

-- the lines up to `.end`, at most n of them, behind those before; the text has so many bytes
unfoldable pub lines : ℕ → ℕ → Parts → List Token → Result Parts Flaw
lines size zero parts ts = fails []
lines size (suc n) parts ts = do
  first ← a_word (from_line ts)
  if is_word (codes ".end") first.0 then (closed first.1 >>= λ x. Ok parts) else do
    more ← line_after size parts first.0 first.1
    lines size n more.0 more.1

-- the line of the model's name
unfoldable pub heading : List Token → Result (Spelled × List Token) Flaw
heading ts = do
  opened ← the_word (codes ".model") ts
  name ← a_word opened
  rest ← an_end name.1
  Ok (name.0, rest)

-- the file of this model
abbrev pub file_with : BlifWord → Parts → BlifFile
file_with name parts = record {
  model = name;
  inputs = parts.inputs;
  outputs = parts.outputs;
  gates = parts.gates;
  joins = parts.joins;
  constants = parts.constants;
}

-- the model of a text of so many bytes, which has at most n lines
unfoldable pub model : ℕ → ℕ → List Token → Result BlifFile Flaw
model size n ts = do
  head ← heading (from_line ts)
  found ← lines size n no_parts head.1
  Ok (file_with (worded size head.0) found)

-- the test of the bytes outside comments, then the grammar
unfoldable pub file_of : List ℕ → Result BlifFile Flaw
file_of bytes = fitting (cleaned Line bytes) >>= λ _. model (length bytes) (suc (length (cleaned Line bytes))) (tokens (cleaned Line bytes))

-- the file that a text is, or the kind and the place of its first fault
unfoldable pub blif_reads : List ℕ → Result BlifFile (BlifKind × ℕ)
blif_reads bytes = placed (length bytes) (file_of bytes)

-- what a fault tells, and nothing for want of memory
abbrev pub told_of : BlifFault → Option (BlifKind × ℕ)
told_of (Bad kind place) = Some (kind, place)
told_of Memory = None
