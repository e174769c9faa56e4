-- the symbols of a placed design, and what stands at its main level
use Rattle.std.specs.Prelude.{ℕ, suc, ◌+◌, Bool, List, [], ◌∷◌, ◌++◌, map, length, Option, None, Some, option_map, slice_get}
use Rattle.geom_core.specs.declared.layout.Shape.{Shape}
use Rattle.geom_core.specs.declared.turn.Place.{Place}
use Rattle.tech_rules.specs.Rules.{RuleValues}
use Rattle.design_model.specs.Drawing.{drawing_of}
use Rattle.design_model.specs.Netlist.{Netlist}
use Rattle.design_model.specs.declared.design.CellKind.{CellKind}
use Rattle.design_model.specs.declared.design.Inst.{Inst}
use Rattle.cif_text.specs.Written as written
use Rattle.feed_cells.specs.Fed.{Fed}
use Rattle.feed_cells.specs.declared.fed.Item.{Item}
use Rattle.feed_cells.specs.declared.fed.Item.TheVariants.{Cell, Feed}
use Rattle.wire_geom.specs.declared.drawn.Drawn.{Drawn}
use Rattle.channel_stack.specs.Layouts.{feed_drawing}
use Rattle.channel_stack.specs.Stack.{LaidOut, Stacked, laid_of}
use Rattle.channel_stack.specs.declared.placed.PlacedItem.{PlacedItem}
use Rattle.cif_writer.specs.FeedHeights.{feed_heights, height_place}
use Rattle.cif_writer.specs.Labels.{item_marks, label_of}

-- a kind as a symbol: its name and its drawing
abbrev pub symbol_for : RuleValues → CellKind → written.WrittenSymbol
symbol_for r kind = record { name = Some kind.name; shapes = drawing_of r kind }

-- the symbol of the feeds of rows of this height, which has no name
abbrev pub feed_symbol : RuleValues → ℕ → written.WrittenSymbol
feed_symbol r height = record { name = None; shapes = feed_drawing r height }

-- the symbols of a layout: the kinds in their order, numbered from 1, and behind them one for each height of rows with feeds
abbrev pub symbols_of : RuleValues → Netlist → Fed → List written.WrittenSymbol
symbols_of r d fed = map (symbol_for r) d.kinds ++ map (feed_symbol r) (feed_heights fed)

-- an instance's name and the number of its symbol
abbrev pub name_of : Option Inst → Option (List ℕ)
name_of None = None
name_of (Some inst) = Some inst.name

abbrev pub number_of : Option Inst → ℕ
number_of None = 0
number_of (Some inst) = inst.kind + 1

-- the number of the symbol of the feeds of a row of this height, where feeds have these heights
abbrev pub feed_number : Netlist → List ℕ → ℕ → ℕ
feed_number d tall height = length d.kinds + 1 + height_place tall height

-- a cell is a copy of its kind's symbol with its instance's name, and a feed one of the symbol with this number without a name
abbrev pub copy_name : Netlist → Item → Option (List ℕ)
copy_name d (Cell s) = name_of (slice_get d.instances s.instance)
copy_name d (Feed net) = None

abbrev pub copy_number : Netlist → ℕ → Item → ℕ
copy_number d number (Cell s) = number_of (slice_get d.instances s.instance)
copy_number d number (Feed net) = number

abbrev pub copy_of : Netlist → ℕ → Item → Place → written.MainItem
copy_of d number item place = written.copy (copy_name d item) (copy_number d number item) place

-- an item, and behind it its labels, where labels are written
abbrev pub item_items : Bool → RuleValues → Netlist → ℕ → PlacedItem → List written.MainItem
item_items labels r d number p = copy_of d number p.item p.place ∷ map label_of (item_marks labels r d p)

abbrev pub copies_of : Bool → RuleValues → Netlist → ℕ → List PlacedItem → List written.MainItem
copies_of labels r d number [] = []
copies_of labels r d number (p ∷ items) = item_items labels r d number p ++ copies_of labels r d number items

-- rectangles of wires stand alone
abbrev pub wires_of : List Drawn → List written.MainItem
wires_of drawn = map (λ (a : Drawn). written.alone a.shape) drawn

-- a row of this height: its items from left to right, and then its risers
abbrev pub row_items : Bool → RuleValues → Netlist → List ℕ → ℕ → List PlacedItem → List Drawn → List written.MainItem
row_items labels r d tall height row risers = copies_of labels r d (feed_number d tall height) row ++ wires_of risers

-- from the bottom up: channel 0, row 0, channel 1, and so on, with rows of these heights
abbrev pub items_of : Bool → RuleValues → Netlist → List ℕ → List ℕ → List (List Drawn) → List (List PlacedItem) → List (List Drawn) → List written.MainItem
items_of labels r d tall heights [] rows risers = []
items_of labels r d tall heights (drawn ∷ channels) [] risers = wires_of drawn
items_of labels r d tall [] (drawn ∷ channels) (row ∷ rows) risers = wires_of drawn
items_of labels r d tall (h ∷ heights) (drawn ∷ channels) (row ∷ rows) [] = wires_of drawn
items_of labels r d tall (h ∷ heights) (drawn ∷ channels) (row ∷ rows) (rise ∷ risers) =
    wires_of drawn ++ (row_items labels r d tall h row rise ++ items_of labels r d tall heights channels rows risers)

-- the main level of a layout that lies so, with these rectangles of channels
abbrev pub laid_items : Bool → RuleValues → Netlist → List ℕ → List (List Drawn) → LaidOut → List written.MainItem
laid_items labels r d tall channels laid = items_of labels r d tall laid.row_height channels laid.cells laid.risers

abbrev pub main_items : Bool → RuleValues → Netlist → List ℕ → Stacked → List written.MainItem
main_items labels r d tall placed = laid_items labels r d tall placed.shapes (laid_of placed)

-- symbols with these drawings, the first of which has this number, from 0 on: those of kinds have the names of the kinds
abbrev pub kind_name : Netlist → ℕ → Option (List ℕ)
kind_name d n = option_map (λ (k : CellKind). k.name) (slice_get d.kinds n)

abbrev pub symbols_with : Netlist → ℕ → List (List Shape) → List written.WrittenSymbol
symbols_with d n [] = []
symbols_with d n (shapes ∷ drawings) = record { name = kind_name d n; shapes = shapes } ∷ symbols_with d (suc n) drawings

-- the drawings of the symbols of a layout
abbrev pub symbol_drawings : RuleValues → Netlist → Fed → List (List Shape)
symbol_drawings r d fed = map (λ (s : written.WrittenSymbol). s.shapes) (symbols_of r d fed)
