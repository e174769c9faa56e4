-- the shapes that commands draw
use Rattle.std.specs.Prelude.{◌≡◌, ℕ, Bool, true, false, List, [], ◌∷◌, ◌++◌, Ok}
use Rattle.std.specs.List.{list_all}
use Rattle.geom_core.specs.declared.layout.Layout.{Layout}
use Rattle.cif_text.specs.declared.command.CifCommand.{CifCommand}
use Rattle.cif_text.specs.declared.command.CifCommand.TheVariants as commands
use Rattle.cif_text.specs.InOrder.{in_order}
use Rattle.cif_text.specs.Symbols.{Symbol, Definition, Main}
use Rattle.cif_text.specs.Meaning.{opened, definition_behind, symbol_of_definition, empty_main, main_behind, layout_of}

-- the commands of the main level, where of a definition its start alone stands; the first argument says whether one is open
abbrev pub outside : Bool → List CifCommand → List CifCommand
outside open_one [] = []
outside true (commands.Finish ∷ cs) = outside false cs
outside true (c ∷ cs) = outside true cs
outside false (commands.Start n a b ∷ cs) = commands.Start n a b ∷ outside true cs
outside false (c ∷ cs) = c ∷ outside false cs

abbrev pub finishes_none : CifCommand → Bool
finishes_none commands.Finish = false
finishes_none _ = true

-- a symbol has its definition among the commands: its name and its shapes are what the commands between the start and the finish give it, where the
-- symbols that ended before can be called
pub record IsDefined (cs : List CifCommand) (earlier : List Symbol) (y : Symbol) : Type 0 where
  pub before : List CifCommand
  pub a : ℕ
  pub b : ℕ
  pub body : List CifCommand
  pub behind : List CifCommand
  pub stands : cs ≡ before ++ (commands.Start y.number a b ∷ (body ++ (commands.Finish ∷ behind)))
  pub closed : list_all finishes_none body ≡ true
  pub definition : Definition
  pub draws : in_order (definition_behind earlier) (opened y.number a b) body ≡ Ok definition
  pub gives : symbol_of_definition definition ≡ y

-- a layout is what the commands of the main level draw, where the symbols that these commands define can be called; its cells are those of the named
-- calls, each with the name of its symbol, its turn, and the place and the number of its shapes
pub record IsDrawnBy (cs : List CifCommand) (l : Layout) : Type 0 where
  pub symbols : List Symbol
  pub defined : (earlier later : List Symbol) (y : Symbol) → symbols ≡ earlier ++ (y ∷ later) → IsDefined cs earlier y
  pub main : Main
  pub draws : in_order (main_behind symbols) empty_main (outside false cs) ≡ Ok main
  pub gives : layout_of main ≡ l
