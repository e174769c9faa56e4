-- the definitions of a text
use Rattle.std.specs.Prelude.{◌+◌, ℕ, ◌-◌, List, [], ◌∷◌, Option, None, Some, drop, take}
use Rattle.cif_text.specs.declared.command.CifCommand.{CifCommand}
use Rattle.cif_text.specs.declared.command.CifCommand.TheVariants as commands
use Rattle.label_reader.specs.declared.definitions.DefinitionPlace.{DefinitionPlace}

-- the definitions of commands, each by the numbers of its start and of its finish: the first command has this number, and this one has the start that came last
abbrev pub definitions_from : ℕ → ℕ → List CifCommand → List DefinitionPlace
definitions_from i start [] = []
definitions_from i start (commands.Start n a b ∷ cs) = definitions_from (i + 1) i cs
definitions_from i start (commands.Finish ∷ cs) = record { start = start; finish = i } ∷ definitions_from (i + 1) start cs
definitions_from i start (c ∷ cs) = definitions_from (i + 1) start cs

abbrev pub definitions : List CifCommand → List DefinitionPlace
definitions cs = definitions_from 0 0 cs

-- the commands between its start and its finish
abbrev pub body : List CifCommand → DefinitionPlace → List CifCommand
body cs d = take (d.finish - (d.start + 1)) (drop (d.start + 1) cs)

-- the number of a symbol whose definition such a command starts
abbrev pub symbol_started : Option CifCommand → Option ℕ
symbol_started (Some (commands.Start n a b)) = Some n
symbol_started _ = None
