-- the places of a finding: the rectangles of the shapes, cells and pins that it concerns
use Rattle.std.specs.Prelude.{ℕ, ◌==◌, List, [], ◌∷◌, ◌++◌, drop, find, Option, Some, None, option_and_then, option_map, slice_get, if◌then◌else◌}
use Rattle.std.specs.Option.{option_to_list}
use Rattle.std.specs.Str.{bytes_eq}
use Rattle.geom_core.specs.Extent.{Extent}
use Rattle.geom_core.specs.declared.layout.Cell.{Cell}
use Rattle.geom_core.specs.declared.layout.Layout.{Layout}
use Rattle.geom_core.specs.declared.layout.Shape.{Shape}
use Rattle.design_model.specs.CellsMatch.{shapes_of}
use Rattle.design_model.specs.Netlist.{Netlist}
use Rattle.design_model.specs.declared.design.CellKind.{CellKind}
use Rattle.design_model.specs.declared.design.Inst.{Inst}
use Rattle.design_model.specs.declared.design.Pin.{Pin}
use Rattle.design_model.specs.declared.design.Position.{Position}
use Rattle.shape_extents.specs.CellShapes.{cell_extent}
use Rattle.layout_check.specs.declared.finding.Finding.{Finding}
use Rattle.layout_check.specs.declared.finding.Finding.TheVariants.{Missing, Doubled, Strange, Drawing, Overlap, OutOfRow, Narrow, Close, BareCut, Opened, Short}
use Rattle.command_ends.specs.FindingLines.{instance_of_pin}

-- the rectangle of the shape of a layout with this number, if there is one
abbrev pub shape_place : Layout → ℕ → Option Extent
shape_place l i = option_map (λ (s : Shape). s.rect) (slice_get l.shapes i)

-- the extent of the shapes of the cell with this number
abbrev pub cell_place : Layout → ℕ → Option Extent
cell_place l c = option_and_then (λ (cell : Cell). cell_extent l cell) (slice_get l.cells c)

-- the positions of the kind of a pin's instance
abbrev pub positions_of_kind : Option CellKind → List Position
positions_of_kind None = []
positions_of_kind (Some kind) = kind.positions

abbrev pub positions_of_instance : Netlist → Option Inst → List Position
positions_of_instance d None = []
positions_of_instance d (Some i) = positions_of_kind (slice_get d.kinds i.kind)

abbrev pub positions_of_pin : Netlist → Option Pin → List Position
positions_of_pin d None = []
positions_of_pin d (Some p) = positions_of_instance d (slice_get d.instances p.instance)

-- the terminal of a pin
abbrev pub terminal_number : Option Pin → ℕ
terminal_number None = 0
terminal_number (Some p) = p.terminal

-- the shapes of a cell behind its outline, which is its first
abbrev pub pins_of_cell : Layout → Option Cell → List Shape
pins_of_cell l None = []
pins_of_cell l (Some cell) = drop 1 (shapes_of l cell)

-- those of the first cell of a name
abbrev pub pins_drawn : Layout → List ℕ → List Shape
pins_drawn l name = pins_of_cell l (find (λ (c : Cell). bytes_eq c.name name) l.cells)

-- the rectangle of a shape that draws a position, if that is one of this terminal
abbrev pub place_at : ℕ → Position → Shape → Option Extent
place_at terminal position shape = if position.terminal == terminal then Some shape.rect else None

-- the rectangles of the shapes that draw the positions of a terminal: each shape draws the position of its number
abbrev pub places_drawn : ℕ → List Position → List Shape → List Extent
places_drawn terminal [] shapes = []
places_drawn terminal (p ∷ ps) [] = []
places_drawn terminal (p ∷ ps) (s ∷ ss) = option_to_list (place_at terminal p s) ++ places_drawn terminal ps ss

-- the places of a pin, as the cell draws them that bears its instance's name
abbrev pub pin_places : Netlist → Layout → ℕ → List Extent
pin_places d l p =
    places_drawn (terminal_number (slice_get d.pins p)) (positions_of_pin d (slice_get d.pins p)) (pins_drawn l (instance_of_pin d (slice_get d.pins p)))

-- the places of a finding, in the order in which it tells of them
unfoldable pub places_of : Netlist → Layout → Finding → List Extent
places_of d l (Missing i) = []
places_of d l (Doubled c later) = option_to_list (cell_place l c) ++ option_to_list (cell_place l later)
places_of d l (Strange c) = option_to_list (cell_place l c)
places_of d l (Drawing c) = option_to_list (cell_place l c)
places_of d l (Overlap i j) = option_to_list (shape_place l i) ++ option_to_list (shape_place l j)
places_of d l (OutOfRow i j) = option_to_list (shape_place l i) ++ option_to_list (shape_place l j)
places_of d l (Narrow i) = option_to_list (shape_place l i)
places_of d l (Close i j) = option_to_list (shape_place l i) ++ option_to_list (shape_place l j)
places_of d l (BareCut i) = option_to_list (shape_place l i)
places_of d l (Opened p q) = pin_places d l p ++ pin_places d l q
places_of d l (Short p q) = pin_places d l p ++ pin_places d l q
