-- the layout that commands mean
use Rattle.std.specs.Prelude.{ℕ, suc, List, [], ◌∷◌, ◌++◌, length, map, Option, Some, None, option_map, Result, Ok, Err}
use Rattle.geom_core.specs.declared.layout.Shape.{Shape}
use Rattle.geom_core.specs.declared.layout.Cell.{Cell}
use Rattle.geom_core.specs.declared.layout.Layout.{Layout}
use Rattle.geom_core.specs.Extent.{Extent}
use Rattle.geom_core.specs.Turning.{Turning}
use Rattle.region_cut.specs.Maximal.{maximal}
use Rattle.cif_text.specs.declared.command.CifCommand.{CifCommand}
use Rattle.cif_text.specs.declared.command.CifCommand.TheVariants as commands
use Rattle.cif_text.specs.declared.command.UserKind.TheVariants as users
use Rattle.read_base.specs.Steps.{◌>>=◌}
use Rattle.cif_text.specs.Scales.{box_around, doubled_corner, scaled_corners, scaled_extent, scaled_extents, scaled_turning, wire_around}
use Rattle.cif_text.specs.Symbols.{Symbol, Level, Definition, Main, State, symbol_of, moved_shapes}

-- why a command has no meaning
pub data Unmeant : Type 0 where
  -- a call of a symbol whose definition has not ended
  undefined : ℕ → Unmeant
  -- a second definition of a symbol
  twice : ℕ → Unmeant
  -- a number that its definition's scale does not make whole in half centimicrons
  inexact : Unmeant
  -- a box, a wire or a polygon without a layer
  no_layer : Unmeant
  -- a named call of a symbol without a name
  no_symbol_name : Unmeant

abbrev pub found : {A : Type 0} → Unmeant → Option A → Result A Unmeant
found fault (Some x) = Ok x
found fault None = Err fault

-- the shapes of rectangles on the present layer
abbrev pub on_layer : Option (List ℕ) → List Extent → Result (List Shape) Unmeant
on_layer layer rects = do
  name ← found no_layer layer
  Ok (map (λ rect. record { layer = name; rect = rect }) rects)

-- CIF 2.0: what a command draws on a level, where these symbols can be called: a box its rectangle on the present layer, a wire the rectangles of its steps,
-- a polygon its maximal blocks, a call the shapes of the called symbol under its turn, and any other command nothing
abbrev pub drawn_by : List Symbol → Level → CifCommand → Result (List Shape) Unmeant
drawn_by symbols l (commands.Box long wide cx cy upright) = do
  rect ← found inexact (scaled_extent l.a l.b (box_around long wide cx cy upright))
  on_layer l.layer (rect ∷ [])
drawn_by symbols l (commands.Wire width path) = do
  rects ← found inexact (scaled_extents l.a l.b (wire_around width path))
  on_layer l.layer rects
drawn_by symbols l (commands.Polygon path) = do
  corners ← found inexact (scaled_corners l.a l.b (map doubled_corner path))
  on_layer l.layer (maximal corners)
drawn_by symbols l (commands.Call n flip quarters dx dy) = do
  symbol ← found (undefined n) (symbol_of n symbols)
  turn ← found inexact (scaled_turning l.a l.b flip quarters dx dy)
  Ok (moved_shapes turn symbol.shapes)
drawn_by symbols l _ = Ok []

abbrev pub layer_behind : Option (List ℕ) → CifCommand → Option (List ℕ)
layer_behind layer (commands.Layer name) = Some name
layer_behind layer _ = layer

-- the level behind a command that draws these shapes
abbrev pub level_behind : Level → CifCommand → List Shape → Level
level_behind l c shapes = record l { layer = layer_behind l.layer c; shapes = l.shapes ++ shapes }

-- CIF 2.0: a level begins without a layer
abbrev pub empty_level : ℕ → ℕ → Level
empty_level a b = record { a = a; b = b; layer = None; shapes = [] }

-- the product's own: the last name of a symbol counts, and names of calls inside a definition are passed over
abbrev pub name_behind : Option (List ℕ) → CifCommand → Option (List ℕ)
name_behind name (commands.User users.SymbolName text) = Some text
name_behind name _ = name

abbrev pub opened : ℕ → ℕ → ℕ → Definition
opened n a b = record { number = n; name = None; level = empty_level a b }

abbrev pub definition_with : Definition → CifCommand → List Shape → Definition
definition_with d c shapes = record d { name = name_behind d.name c; level = level_behind d.level c shapes }

-- a command inside a definition
abbrev pub definition_behind : List Symbol → Definition → CifCommand → Result Definition Unmeant
definition_behind symbols d c = do
  shapes ← drawn_by symbols d.level c
  Ok (definition_with d c shapes)

abbrev pub symbol_of_definition : Definition → Symbol
symbol_of_definition d = record { number = d.number; name = d.name; shapes = d.level.shapes }

-- the product's own: a name waits for the call that is the next command of the main level, comments, labels and other user commands aside
abbrev pub waiting_behind : Option (List ℕ) → CifCommand → Option (List ℕ)
waiting_behind waiting (commands.User users.InstanceName text) = Some text
waiting_behind waiting (commands.User users.Label text) = waiting
waiting_behind waiting (commands.User users.Other text) = waiting
waiting_behind waiting commands.Comment = waiting
waiting_behind waiting commands.Finish = waiting
waiting_behind waiting commands.End = waiting
waiting_behind waiting _ = None

-- the product's own: the cell of a call that is named, behind so many shapes, and none of one that is not. It needs the symbol's name
abbrev pub cells_of : Option (List ℕ) → Option Symbol → Option Turning → ℕ → Option (List Cell)
cells_of (Some name) (Some symbol) (Some turn) first =
    option_map (λ kind. record { name = name; symbol = kind; turn = turn; first = first; count = length symbol.shapes } ∷ []) symbol.name
cells_of _ _ _ _ = Some []

abbrev pub cells_by : List Symbol → Level → Option (List ℕ) → CifCommand → Option (List Cell)
cells_by symbols l waiting (commands.Call n flip quarters dx dy) =
    cells_of waiting (symbol_of n symbols) (scaled_turning l.a l.b flip quarters dx dy) (length l.shapes)
cells_by symbols l waiting _ = Some []

-- CIF 2.0: the main level has the scale 1 / 1
abbrev pub empty_main : Main
empty_main = record { level = empty_level 1 1; cells = []; waiting = None }

abbrev pub main_with : Main → CifCommand → List Shape → List Cell → Main
main_with m c shapes cells = record { level = level_behind m.level c shapes; cells = m.cells ++ cells; waiting = waiting_behind m.waiting c }

-- a command of the main level
abbrev pub main_behind : List Symbol → Main → CifCommand → Result Main Unmeant
main_behind symbols m c = do
  shapes ← drawn_by symbols m.level c
  cells ← found no_symbol_name (cells_by symbols m.level m.waiting c)
  Ok (main_with m c shapes cells)

-- the state behind the start of a definition, and behind its finish
abbrev pub started : State → ℕ → ℕ → ℕ → Option Symbol → Result State Unmeant
started s n a b (Some symbol) = Err (twice n)
started s n a b None = Ok (record s { main = record s.main { waiting = None }; inside = Some (opened n a b) })

abbrev pub finished : State → Definition → State
finished s d = record s { symbols = s.symbols ++ (symbol_of_definition d ∷ []); inside = None }

abbrev pub with_main : State → Main → State
with_main s m = record s { main = m }

abbrev pub with_inside : State → Definition → State
with_inside s d = record s { inside = Some d }

abbrev pub step_in : State → Option Definition → CifCommand → Result State Unmeant
step_in s None (commands.Start n a b) = started s n a b (symbol_of n s.symbols)
step_in s None c = main_behind s.symbols s.main c >>= λ m. Ok (with_main s m)
step_in s (Some d) commands.Finish = Ok (finished s d)
step_in s (Some d) c = definition_behind s.symbols d c >>= λ e. Ok (with_inside s e)

-- the state behind a command
unfoldable pub step : State → CifCommand → Result State Unmeant
step s command = step_in s s.inside command

-- a fault at the command of this number
abbrev pub at_command : {A : Type 0} → ℕ → Result A Unmeant → Result A (Unmeant × ℕ)
at_command i (Ok x) = Ok x
at_command i (Err fault) = Err (fault, i)

-- the state behind some commands, of which the first has this number
unfoldable pub run : ℕ → State → List CifCommand → Result State (Unmeant × ℕ)
run i s [] = Ok s
run i s (c ∷ cs) = at_command i (step s c) >>= λ t. run (suc i) t cs

abbrev pub nothing : State
nothing = record { main = empty_main; symbols = []; inside = None }

abbrev pub layout_of : Main → Layout
layout_of m = record { cells = m.cells; shapes = m.level.shapes }

-- what commands mean: the layout of the main level, or the first command without a meaning and what is wrong with it
unfoldable pub meaning : List CifCommand → Result Layout (Unmeant × ℕ)
meaning cs = run 0 nothing cs >>= λ s. Ok (layout_of s.main)
