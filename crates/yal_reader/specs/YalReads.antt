-- what a YAL text is read as, from its bytes to its file
use Rattle.std.specs.Prelude.{ℕ, zero, suc, List, [], ◌∷◌, ◌++◌, length, Option, None, Some, Result, Ok, codes, if◌then◌else◌}
use Rattle.yal_reader.specs.Kept.{module_names}
use Rattle.yal_reader.specs.Lists.{unless_taken}
use Rattle.read_base.specs.Placed.{placed}
use Rattle.read_base.specs.Steps.{◌>>=◌}
use Rattle.yal_reader.specs.Sections.{items_of, no_parts, sections}
use Rattle.yal_reader.specs.Text.{ascii, uncommented}
use Rattle.yal_reader.specs.Tokens.{Spelled, Token, tokens}
use Rattle.yal_reader.specs.Words.{a_kind, a_word, an_end, is_empty, statement, fails, the_word}
use Rattle.yal_reader.specs.declared.fault.YalFault.{YalFault}
use Rattle.yal_reader.specs.declared.fault.YalFault.TheVariants.{Bad, Memory}
use Rattle.yal_reader.specs.declared.fault.YalKind.{YalKind}
use Rattle.yal_reader.specs.declared.file.Kind.{Kind}
use Rattle.yal_reader.specs.declared.file.Module.{Module}
use Rattle.yal_reader.specs.declared.file.YalFile.{YalFile}
use Rattle.yal_reader.specs.declared.notation.Numbers.{Numbers}
use Rattle.yal_reader.specs.declared.parts.Parts.{Parts}
use Rattle.yal_reader.specs.Flaws.{Flaw}

-- a module's name and type; names are those of the modules before
unfoldable pub heading : List (List ℕ) → List Token → Result ((Spelled × Kind) × List Token) Flaw
heading names ts = do
  opened ← the_word (codes "MODULE") ts
  name ← a_word opened
  named ← unless_taken names name.0 (an_end name.1)
  typed ← the_word (codes "TYPE") (statement named)
  kind ← a_kind typed
  rest ← an_end kind.1
  Ok ((name.0, kind.0), rest)

-- the module of this name and kind with these parts
abbrev pub module_of : List ℕ → Kind → Parts → Module
module_of name kind parts =
    record { name = name; kind = kind; corners = items_of parts.corners; lines = items_of parts.lines; calls = items_of parts.calls }

-- a module, and what follows it
unfoldable pub a_module : Numbers → ℕ → List (List ℕ) → List Token → Result (Module × List Token) Flaw
a_module numbers n names ts = do
  head ← heading names ts
  parts ← sections numbers n head.0.1 no_parts head.1
  Ok (module_of head.0.0.text head.0.1 parts.0, parts.1)

-- the modules to the end of the text, at most n of them, behind those found before
unfoldable pub modules : Numbers → ℕ → List Module → List Token → Result (List Module) Flaw
modules numbers zero before ts = fails []
modules numbers (suc n) before ts =
    if is_empty (statement ts) then Ok before else do
      one ← a_module numbers (suc n) (module_names before) (statement ts)
      modules numbers n (before ++ one.0 ∷ []) one.1

-- the ASCII test, then the comments, then the grammar
unfoldable pub file_of : List ℕ → Numbers → Result YalFile Flaw
file_of bytes numbers = do
  checked ← ascii bytes
  text ← uncommented None bytes
  found ← modules numbers (suc (length text)) [] (tokens text)
  Ok (record { modules = found })

-- the file that a text is, whose numbers are written so, or the kind and the place of its first fault
unfoldable pub yal_reads : List ℕ → Numbers → Result YalFile (YalKind × ℕ)
yal_reads bytes numbers = placed (length bytes) (file_of bytes numbers)

-- what a fault tells, and nothing for want of memory
abbrev pub told_of : YalFault → Option (YalKind × ℕ)
told_of (Bad kind place) = Some (kind, place)
told_of Memory = None
