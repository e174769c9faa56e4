-- the layout that a stack is
use Rattle.std.specs.Prelude.{ℕ, ◌+◌, ◌*◌, ◌-◌, List, [], ◌∷◌, ◌++◌, map, length, Option, None, Some, slice_get}
use Rattle.std.specs.List.{flat_map}
use Rattle.geom_core.specs.Moving.{moved_shape, turn_at}
use Rattle.geom_core.specs.declared.layout.Cell as layouts
use Rattle.geom_core.specs.declared.layout.Layout.{Layout}
use Rattle.geom_core.specs.declared.layout.Shape.{Shape}
use Rattle.geom_core.specs.declared.turn.Place.{Place}
use Rattle.tech_rules.specs.Rules.{RuleValues}
use Rattle.design_model.specs.Drawing.{drawing_of, extent_of, middle_of}
use Rattle.design_model.specs.Netlist.{Netlist}
use Rattle.design_model.specs.declared.design.CellKind.{CellKind}
use Rattle.design_model.specs.declared.design.Inst.{Inst}
use Rattle.row_model.specs.Widths.{kind_of}
use Rattle.feed_cells.specs.declared.fed.Item.{Item}
use Rattle.feed_cells.specs.declared.fed.Item.TheVariants.{Cell, Feed}
use Rattle.wire_geom.specs.declared.drawn.Drawn.{Drawn}
use Rattle.channel_stack.specs.Stack.{Stacked}
use Rattle.channel_stack.specs.declared.placed.PlacedItem.{PlacedItem}

-- the drawing of a feed: its outline, and a vertical wire from its lower edge to its upper one in its middle
abbrev pub feed_outline : RuleValues → ℕ → Shape
feed_outline r height = record { layer = r.outline.layer; rect = extent_of r.grid.centi 0 0 (2 * r.grid.column) (2 * height) }

abbrev pub feed_wire : RuleValues → ℕ → Shape
feed_wire r height = record {
  layer = r.vertical.layer;
  rect = extent_of r.grid.centi (middle_of r.grid.column 0 - r.vertical.width) 0 (middle_of r.grid.column 0 + r.vertical.width) (2 * height);
}

unfoldable pub feed_drawing : RuleValues → ℕ → List Shape
feed_drawing r height = feed_outline r height ∷ (feed_wire r height ∷ [])

-- what an item of a row of this height draws: a cell the drawing of its instance's kind, and a feed its own, as high as the row
abbrev pub kind_drawing : RuleValues → Option CellKind → List Shape
kind_drawing r None = []
kind_drawing r (Some kind) = drawing_of r kind

abbrev pub item_drawing : RuleValues → Netlist → ℕ → Item → List Shape
item_drawing r d height (Cell s) = kind_drawing r (kind_of d s.instance)
item_drawing r d height (Feed net) = feed_drawing r height

-- the shapes of an item: what it draws, moved by its place
abbrev pub item_shapes : RuleValues → Netlist → ℕ → PlacedItem → List Shape
item_shapes r d height p = map (moved_shape (turn_at p.place)) (item_drawing r d height p.item)

-- those of a row's items from left to right, and those of wires
abbrev pub items_shapes : RuleValues → Netlist → ℕ → List PlacedItem → List Shape
items_shapes r d height row = flat_map (item_shapes r d height) row

abbrev pub wire_shapes : List Drawn → List Shape
wire_shapes drawn = map (λ (a : Drawn). a.shape) drawn

-- those of a row of this height: of its items, and behind them of its risers
abbrev pub row_shapes : RuleValues → Netlist → ℕ → List PlacedItem → List Drawn → List Shape
row_shapes r d height row risers = items_shapes r d height row ++ wire_shapes risers

-- from the bottom up: the shapes of channel 0, of row 0, of channel 1, and so on, with rows of these heights
abbrev pub stacked_shapes : RuleValues → Netlist → List ℕ → List (List Drawn) → List (List PlacedItem) → List (List Drawn) → List Shape
stacked_shapes r d heights [] rows risers = []
stacked_shapes r d heights (channel ∷ channels) [] risers = wire_shapes channel
stacked_shapes r d [] (channel ∷ channels) (row ∷ rows) risers = wire_shapes channel
stacked_shapes r d (h ∷ heights) (channel ∷ channels) (row ∷ rows) [] = wire_shapes channel
stacked_shapes r d (h ∷ heights) (channel ∷ channels) (row ∷ rows) (rise ∷ risers) =
    wire_shapes channel ++ (row_shapes r d h row rise ++ stacked_shapes r d heights channels rows risers)

-- the cell of an instance of a kind at a place, whose first shape has this number
abbrev pub cell_at : RuleValues → Inst → CellKind → Place → ℕ → layouts.Cell
cell_at r inst kind place first = record {
  name = inst.name;
  symbol = kind.name;
  turn = turn_at place;
  first = first;
  count = length (drawing_of r kind);
}

abbrev pub kind_cells : RuleValues → Inst → Place → ℕ → Option CellKind → List layouts.Cell
kind_cells r inst place first None = []
kind_cells r inst place first (Some kind) = cell_at r inst kind place first ∷ []

abbrev pub instance_cells : RuleValues → Netlist → Place → ℕ → Option Inst → List layouts.Cell
instance_cells r d place first None = []
instance_cells r d place first (Some inst) = kind_cells r inst place first (slice_get d.kinds inst.kind)

-- the cell of an item whose first shape has this number: a feed is none
abbrev pub item_cells : RuleValues → Netlist → ℕ → Item → Place → List layouts.Cell
item_cells r d first (Cell s) place = instance_cells r d place first (slice_get d.instances s.instance)
item_cells r d first (Feed net) place = []

-- the cells of a row of this height whose first shape has this number
abbrev pub row_cells : RuleValues → Netlist → ℕ → ℕ → List PlacedItem → List layouts.Cell
row_cells r d height first [] = []
row_cells r d height first (p ∷ row) = item_cells r d first p.item p.place ++ row_cells r d height (first + length (item_shapes r d height p)) row

-- the cells of the rows of these heights, from the bottom up, behind a first shape of this number
abbrev pub stacked_cells : RuleValues → Netlist → List ℕ → ℕ → List (List Drawn) → List (List PlacedItem) → List (List Drawn) → List layouts.Cell
stacked_cells r d heights first [] rows risers = []
stacked_cells r d heights first (channel ∷ channels) [] risers = []
stacked_cells r d [] first (channel ∷ channels) (row ∷ rows) risers = []
stacked_cells r d (h ∷ heights) first (channel ∷ channels) (row ∷ rows) [] = []
stacked_cells r d (h ∷ heights) first (channel ∷ channels) (row ∷ rows) (rise ∷ risers) =
    row_cells r d h (first + length channel) row ++ stacked_cells r d heights (first + length channel + length (row_shapes r d h row rise)) channels rows risers

-- the layout that a placed design is
unfoldable pub layout_of : RuleValues → Netlist → Stacked → Layout
layout_of r d placed = record {
  cells = stacked_cells r d placed.row_height 0 placed.shapes placed.cells placed.risers;
  shapes = stacked_shapes r d placed.row_height placed.shapes placed.cells placed.risers;
}
