-- the level whose content is the layout: the main level, or a definition
use Rattle.std.specs.Prelude.{ℕ, ℤ, pos, ◌==◌, ◌-◌, ◌&&◌, List, [], ◌∷◌, Bool, true, false, not, Option, None, Some, find, length, slice_get, if◌then◌else◌, nat_lt}
use Rattle.std.specs.Ordering.{int_eq}
use Rattle.cif_text.specs.CifReads.{is_open_behind}
use Rattle.cif_text.specs.declared.command.CifCommand.{CifCommand}
use Rattle.cif_text.specs.declared.command.CifCommand.TheVariants as commands
use Rattle.cif_text.specs.declared.command.UserKind.TheVariants as users
use Rattle.label_reader.specs.declared.definitions.DefinitionPlace.{DefinitionPlace}
use Rattle.label_reader.specs.Definitions.{definitions, symbol_started}

-- a command that gives a level content: a shape, a call, or a name
abbrev pub counts : CifCommand → Bool
counts (commands.Box long wide cx cy upright) = true
counts (commands.Wire width path) = true
counts (commands.Polygon path) = true
counts (commands.Call n flip quarters dx dy) = true
counts (commands.User users.InstanceName text) = true
counts (commands.User users.Label text) = true
counts _ = false

-- the content of the main level; the first argument says whether a definition is open
abbrev pub main_content : Bool → List CifCommand → List CifCommand
main_content inside [] = []
main_content true (c ∷ cs) = main_content (is_open_behind true c) cs
main_content false (c ∷ cs) = if counts c then c ∷ main_content (is_open_behind false c) cs else main_content (is_open_behind false c) cs

-- whether a definition is of this symbol
abbrev pub is_number : ℕ → Option ℕ → Bool
is_number n None = false
is_number n (Some m) = m == n

abbrev pub is_of : List CifCommand → ℕ → DefinitionPlace → Bool
is_of cs n d = is_number n (symbol_started (slice_get cs d.start))

abbrev pub is_unturned : Bool → ℕ → ℤ → ℤ → Bool
is_unturned flip quarters dx dy = (not flip && quarters == 0) && (int_eq dx (pos 0) && int_eq dy (pos 0))

-- KLayout's and Magic's own: where the main level has no content, the layout is the last definition, and where that is one call without a turn, the layout is the definition that is called
abbrev pub top_by : List CifCommand → List DefinitionPlace → List CifCommand → Option DefinitionPlace
top_by cs ds [] = slice_get ds (length ds - 1)
top_by cs ds (commands.Call n flip quarters dx dy ∷ []) = if is_unturned flip quarters dx dy then find (is_of cs n) ds else None
top_by cs ds _ = None

abbrev pub top : List CifCommand → Option DefinitionPlace
top cs = top_by cs (definitions cs) (main_content false cs)

-- whether the command of a number stands at the top, where a definition is open or not
abbrev pub is_at_top : Option DefinitionPlace → ℕ → Bool → Bool
is_at_top None i inside = not inside
is_at_top (Some d) i inside = nat_lt d.start i && nat_lt i d.finish
