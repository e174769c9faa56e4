-- the definitions, each behind those that it calls
use Rattle.std.specs.Prelude.{◌+◌, ℕ, zero, suc, List, [], ◌∷◌, ◌++◌, Bool, true, false, is_some, Option, Some, slice_get, if◌then◌else◌, Result, Ok}
use Rattle.std.specs.List.{list_all}
use Rattle.cif_text.specs.declared.command.CifCommand.{CifCommand}
use Rattle.cif_text.specs.declared.command.CifCommand.TheVariants as commands
use Rattle.cif_text.specs.Symbols.{Symbol, symbol_of}
use Rattle.read_base.specs.Steps.{◌>>=◌}
use Rattle.cif_reader.specs.declared.fault.ExpandKind.{ExpandKind}
use Rattle.cif_reader.specs.Expansion.{Progress, advance, refused_at}
use Rattle.cif_reader.specs.Limits.{deepest}
use Rattle.label_reader.specs.declared.definitions.DefinitionPlace.{DefinitionPlace}
use Rattle.label_reader.specs.Definitions.{body, definitions}

-- what stands behind some commands, or a refusal and the number of its command
abbrev pub Reading : Type 0
Reading = Result Progress (ExpandKind × ℕ)

-- a command that neither starts nor finishes a definition, nor ends the text
abbrev pub stays : CifCommand → Bool
stays (commands.Start n a b) = false
stays commands.Finish = false
stays commands.End = false
stays _ = true

-- a command that stays is taken
abbrev pub taken : ℕ → Progress → CifCommand → Reading
taken i p c = if stays c then refused_at i (advance p c) else Ok p

-- commands, of which the first has this number, one after another
abbrev pub all_taken : ℕ → Progress → List CifCommand → Reading
all_taken i p [] = Ok p
all_taken i p (c ∷ cs) = taken i p c >>= λ q. all_taken (i + 1) q cs

-- a definition is taken from its start to its finish
abbrev pub defined_by : List CifCommand → Progress → DefinitionPlace → Option CifCommand → Reading
defined_by cs p d (Some (commands.Start n a b)) = do
  q ← refused_at d.start (advance p (commands.Start n a b))
  r ← all_taken (d.start + 1) q (body cs d)
  refused_at d.finish (advance r commands.Finish)
defined_by cs p d _ = Ok p

unfoldable pub defined : List CifCommand → Progress → DefinitionPlace → Reading
defined cs p d = defined_by cs p d (slice_get cs d.start)

abbrev pub all_defined : List CifCommand → Progress → List DefinitionPlace → Reading
all_defined cs p [] = Ok p
all_defined cs p (d ∷ ds) = defined cs p d >>= λ q. all_defined cs q ds

-- a command calls no symbol but these
abbrev pub calls_only : List Symbol → CifCommand → Bool
calls_only symbols (commands.Call n flip quarters dx dy) = is_some (symbol_of n symbols)
calls_only symbols _ = true

abbrev pub is_ready : List CifCommand → Progress → DefinitionPlace → Bool
is_ready cs p d = list_all (calls_only p.state.symbols) (body cs d)

-- a pass over definitions: each is defined that calls only symbols that are defined, and the others are left, behind these
abbrev pub passed : List CifCommand → Progress → List DefinitionPlace → List DefinitionPlace → Result (Progress × List DefinitionPlace) (ExpandKind × ℕ)
passed cs p left [] = Ok (p, left)
passed cs p left (d ∷ ds) = if is_ready cs p d then (defined cs p d >>= λ q. passed cs q left ds) else passed cs p (left ++ (d ∷ [])) ds

-- so many passes; what is left then is defined in its order, and so refused
abbrev pub passes : ℕ → List CifCommand → Progress → List DefinitionPlace → Reading
passes zero cs p ds = all_defined cs p ds
passes (suc n) cs p ds = passed cs p [] ds >>= λ r. passes n cs r.0 r.1

-- no symbol is deeper than so many passes
unfoldable pub in_order : List CifCommand → Progress → Reading
in_order cs p = passes deepest cs p (definitions cs)
