-- what stands behind some commands, for whoever takes them in an order of their own
use Rattle.std.specs.Prelude.{ℕ, List, [], Option, Result, Ok, Err}
use Rattle.geom_core.specs.declared.layout.Shape.{Shape}
use Rattle.cif_text.specs.declared.command.CifCommand.{CifCommand}
use Rattle.cif_text.specs.declared.command.CifCommand.TheVariants as commands
use Rattle.cif_text.specs.Symbols.{State}
use Rattle.cif_reader.specs.declared.fault.ExpandKind.{ExpandKind}
use Rattle.cif_reader.specs.Expansion.{Progress}
use Rattle.cif_reader.specs.Levels.{given}

-- the main level draws at a scale
abbrev pub at_scale : ℕ → ℕ → Progress → Progress
at_scale a b p = record p { state = record p.state { main = record p.state.main { level = record p.state.main.level { a = a; b = b } } } }

-- a name waits for the next command of the main level, or none
abbrev pub with_waiting : Option (List ℕ) → Progress → Progress
with_waiting name p = record p { state = record p.state { main = record p.state.main { waiting = name } } }

abbrev pub shapes_or_none : Result (List Shape) ExpandKind → List Shape
shapes_or_none (Ok shapes) = shapes
shapes_or_none (Err kind) = []

-- the shapes that a call gives the main level, where it is not refused
abbrev pub called_shapes : State → CifCommand → List Shape
called_shapes s (commands.Call n flip quarters dx dy) = shapes_or_none (given s.symbols s.main.level (commands.Call n flip quarters dx dy))
called_shapes s _ = []
