-- cells that cover what their kinds' drawings do
use Rattle.std.specs.Prelude.{ℕ, List, map, find, filter, Bool, ◌||◌, is_some, if◌then◌else◌, Option, None, Some}
use Rattle.std.specs.List.{list_any}
use Rattle.std.specs.Str.{bytes_eq}
use Rattle.geom_core.specs.Moving.{moved_shape}
use Rattle.geom_core.specs.declared.layout.Cell.{Cell}
use Rattle.geom_core.specs.declared.layout.Layout.{Layout}
use Rattle.geom_core.specs.declared.layout.Shape.{Shape}
use Rattle.tech_rules.specs.Rules.{RuleValues}
use Rattle.design_model.specs.CellsMatch.{shapes_of}
use Rattle.design_model.specs.Drawing.{drawing_of}
use Rattle.design_model.specs.Netlist.{Netlist}
use Rattle.design_model.specs.declared.design.CellKind.{CellKind}
use Rattle.design_model.specs.declared.design.Inst.{Inst}
use Rattle.layout_check.specs.CellFaults.{are_shapes}
use Rattle.layout_merge.specs.Areas.{merged_shapes}

-- the kind of a design that bears the name of a symbol
abbrev pub kind_named : Netlist → List ℕ → Option CellKind
kind_named d symbol = find (λ (k : CellKind). bytes_eq k.name symbol) d.kinds

abbrev pub is_instance : Netlist → List ℕ → Bool
is_instance d name = list_any (λ (i : Inst). bytes_eq i.name name) d.instances

-- a call is a cell of the design where it calls one of its kinds, or bears the name of one of its instances: others, such as feeds, may have names that a tool made up
abbrev pub is_known : Netlist → Cell → Bool
is_known d cell = is_some (kind_named d cell.symbol) || is_instance d cell.name

abbrev pub known_cells : Netlist → Layout → List Cell
known_cells d l = filter (is_known d) l.cells

-- shapes that cover the same areas as those of a drawing are taken for them
abbrev pub as_drawn : RuleValues → List Shape → List Shape → List Shape
as_drawn r shapes drawn = if are_shapes (merged_shapes r shapes) (merged_shapes r drawn) then drawn else shapes

-- the shapes of a cell that calls a kind, if it does
abbrev pub drawn_by : RuleValues → Layout → Option CellKind → Cell → List Shape
drawn_by r l None cell = shapes_of l cell
drawn_by r l (Some kind) cell = as_drawn r (shapes_of l cell) (map (moved_shape cell.turn) (drawing_of r kind))

-- the shapes of a cell: those of its kind's drawing, where they cover the same
unfoldable pub drawn : RuleValues → Netlist → Layout → Cell → List Shape
drawn r d l cell = drawn_by r l (kind_named d cell.symbol) cell
