-- cells that are missing, doubled, strange or drawn otherwise
use Rattle.std.specs.Prelude.{ℕ, ◌==◌, List, [], ◌∷◌, map, find, Bool, true, false, not, ◌&&◌, Option, None, Some, slice_get}
use Rattle.std.specs.List.{list_any}
use Rattle.std.specs.Ordering.{int_eq}
use Rattle.std.specs.Str.{bytes_eq}
use Rattle.geom_core.specs.Extent.{Extent}
use Rattle.geom_core.specs.Moving.{moved_shape}
use Rattle.geom_core.specs.declared.layout.Cell.{Cell}
use Rattle.geom_core.specs.declared.layout.Layout.{Layout}
use Rattle.geom_core.specs.declared.layout.Shape.{Shape}
use Rattle.tech_rules.specs.Rules.{RuleValues}
use Rattle.design_model.specs.CellsMatch.{cell_names, instance_names, shapes_of}
use Rattle.design_model.specs.Drawing.{drawing_of}
use Rattle.design_model.specs.Netlist.{Netlist}
use Rattle.design_model.specs.declared.design.CellKind.{CellKind}
use Rattle.design_model.specs.declared.design.Inst.{Inst}
use Rattle.rule_check.specs.Failing.{failing}
use Rattle.layout_check.specs.NetFaults.{pairs_of_firsts}

-- the instances whose names no cell has
abbrev pub missing : Netlist → Layout → List ℕ
missing d l = failing (λ name. not (list_any (bytes_eq name) (cell_names l))) (instance_names d)

-- the first cell of a name with each later one of that name
abbrev pub doubled : Layout → List (ℕ × ℕ)
doubled l = pairs_of_firsts bytes_eq (λ name other. true) (cell_names l)

-- the cells whose names no instance has
abbrev pub strange : Netlist → Layout → List ℕ
strange d l = failing (λ name. not (list_any (bytes_eq name) (instance_names d))) (cell_names l)

abbrev pub is_extent : Extent → Extent → Bool
is_extent e f = (int_eq e.x0 f.x0 && int_eq e.y0 f.y0) && (int_eq e.x1 f.x1 && int_eq e.y1 f.y1)

-- whether two shapes are the same
abbrev pub is_shape : Shape → Shape → Bool
is_shape s t = bytes_eq s.layer t.layer && is_extent s.rect t.rect

-- whether two lists of shapes are the same
abbrev pub are_shapes : List Shape → List Shape → Bool
are_shapes [] [] = true
are_shapes [] (t ∷ ts) = false
are_shapes (s ∷ ss) [] = false
are_shapes (s ∷ ss) (t ∷ ts) = is_shape s t && are_shapes ss ts

-- whether a cell is a copy of a kind: by its symbol's name, upright, mirrored perhaps, with the kind's drawing under its turn as its shapes
abbrev pub is_copy_of : RuleValues → Layout → CellKind → Cell → Bool
is_copy_of r l kind cell =
    (bytes_eq cell.symbol kind.name && cell.turn.quarters == 0)
    && are_shapes (shapes_of l cell) (map (moved_shape cell.turn) (drawing_of r kind))

-- of the kind with this number, if there is one
abbrev pub is_copy_of_kind : RuleValues → Netlist → Layout → Option CellKind → Cell → Bool
is_copy_of_kind r d l None cell = true
is_copy_of_kind r d l (Some kind) cell = is_copy_of r l kind cell

-- of the kind of this instance, if there is one
abbrev pub is_copy_for : RuleValues → Netlist → Layout → Option Inst → Cell → Bool
is_copy_for r d l None cell = true
is_copy_for r d l (Some i) cell = is_copy_of_kind r d l (slice_get d.kinds i.kind) cell

-- the cells with an instance's name that are not copies of its kind
abbrev pub misdrawn : RuleValues → Netlist → Layout → List ℕ
misdrawn r d l = failing (λ (c : Cell). not (is_copy_for r d l (find (λ (i : Inst). bytes_eq i.name c.name) d.instances) c)) l.cells
