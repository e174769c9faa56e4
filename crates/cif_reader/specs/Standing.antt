-- what stands behind some commands, as the program keeps it
use Rattle.std.specs.Prelude.{◌≡◌, ◌≤◌, ℕ, max, List, [], ◌∷◌, length, Option, Some, Result, Ok}
use Rattle.geom_core.specs.declared.layout.Shape.{Shape}
use Rattle.geom_core.specs.declared.layout.Cell.{Cell}
use Rattle.cif_text.specs.declared.command.CifCommand.{CifCommand}
use Rattle.cif_text.specs.Meaning.{cells_of, cells_by}
use Rattle.cif_text.specs.Symbols.{Symbol, Level, Definition, Main, moved_shapes}
use Rattle.cif_reader.specs.declared.calls.CalledSymbol.{CalledSymbol}
use Rattle.cif_reader.specs.declared.fault.ExpandKind.{ExpandKind}
use Rattle.cif_reader.specs.declared.inside.Open.{Open}
use Rattle.cif_reader.specs.declared.level.Given.{Given}
use Rattle.cif_reader.specs.declared.level.Given.TheVariants as givens
use Rattle.cif_reader.specs.declared.level.Pen.{Pen}
use Rattle.cif_reader.specs.declared.outside.Main.{Main as MainKept}
use Rattle.cif_reader.specs.Expansion.{depth_by}
use Rattle.cif_reader.specs.Levels.{depth_above}
use Rattle.cif_reader.specs.Limits.{most_shapes}
use Rattle.cif_reader.specs.Sides.{AreProper, IsNearTurn, IsProper}
use Rattle.cif_reader.specs.Table.{items_drawn, symbol_at, IsKeptBehind}
use Rattle.cif_reader.specs.Tabled.{Tabled, depth_at}

-- a level that has these shapes
abbrev pub level_seen : Pen → List Shape → Level
level_seen pen shapes = record { a = pen.scale.a; b = pen.scale.b; layer = pen.layer; shapes = shapes }

abbrev pub symbol_called : CalledSymbol → Symbol
symbol_called call = symbol_at call.symbol.table.now.symbols call.symbol.place

-- the shapes that are given, the depth that they make, and their cells where a name waits and so many shapes stand before
abbrev pub shapes_made : Given → List Shape
shapes_made givens.Nothing = []
shapes_made (givens.Own shape) = shape ∷ []
shapes_made (givens.Several shapes) = shapes
shapes_made (givens.Copied call) = moved_shapes call.turn (symbol_called call).shapes

abbrev pub depth_made : Given → Result ℕ ExpandKind
depth_made (givens.Copied call) = depth_above (depth_at call.symbol.table.now.depths call.symbol.place)
depth_made _ = Ok 1

abbrev pub cells_made : Option (List ℕ) → ℕ → Given → Option (List Cell)
cells_made waiting first (givens.Copied call) = cells_of waiting (Some (symbol_called call)) (Some call.turn) first
cells_made waiting first _ = Some []

-- shapes with proper sides, or a copy of a symbol of this table
abbrev pub IsSoundIn : Tabled → Given → Type 0
IsSoundIn t givens.Nothing = Unit {0}
IsSoundIn t (givens.Own shape) = IsProper shape.rect
IsSoundIn t (givens.Several shapes) = AreProper shapes
IsSoundIn t (givens.Copied call) = (call.symbol.table.now ≡ t) × IsNearTurn call.turn

-- this is what a command gives a level, where these symbols can be called
pub record IsGiven (t : Tabled) (l : Level) (c : CifCommand) (given : Given) : Type 0 where
  pub depth : depth_made given ≡ depth_by t.symbols t.depths c
  pub cells : (waiting : Option (List ℕ)) → cells_made waiting (length l.shapes) given ≡ cells_by t.symbols l waiting c
  pub sound : IsSoundIn t given

-- the definition that is open, behind these symbols
abbrev pub definition_seen : List Symbol → Open → Definition
definition_seen symbols open_one =
    record { number = open_one.kept.number; name = open_one.kept.name; level = level_seen open_one.pen (items_drawn symbols open_one.kept.items.items) }

-- what is kept of the definition that is open is so
abbrev pub IsOpen : List Symbol → Open → Type 0
IsOpen symbols open_one = IsKeptBehind symbols open_one.kept

-- the definition is what is given, and so is its depth
pub record IsInsideBehind (symbols : List Symbol) (old new : Open) (given : Definition × ℕ) : Type 0 where
  pub seen : definition_seen symbols new ≡ given.0
  pub depth_is : new.kept.depth ≡ max old.kept.depth given.1
  pub is : IsOpen symbols new

abbrev pub main_seen : MainKept → Main
main_seen main = record { level = level_seen main.pen main.shapes.items; cells = main.cells.items; waiting = main.waiting }

-- the main level is what is given, and so is its depth; it has not too many shapes
pub record IsOutsideBehind (old new : MainKept) (given : Main × ℕ) : Type 0 where
  pub few : length new.shapes.items ≤ most_shapes
  pub seen : main_seen new ≡ given.0
  pub depth_is : new.depth ≡ max old.depth given.1
