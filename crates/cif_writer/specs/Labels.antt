-- the labels of a placed design: the names of its cells and nets, each with the shape in whose middle it stands
use Rattle.std.specs.Prelude.{ℕ, zero, suc, ◌-◌, List, [], ◌∷◌, ◌++◌, length, Bool, true, false, ◌&&◌, ◌==◌, if◌then◌else◌, Option, None, Some, option_map, slice_get}
use Rattle.std.specs.List.{find, position, position_or_len}
use Rattle.std.specs.Option.{option_and_then, option_to_list}
use Rattle.geom_core.specs.Moving.{moved_shape, turn_at}
use Rattle.geom_core.specs.Names.{is_name}
use Rattle.geom_core.specs.declared.layout.Shape.{Shape}
use Rattle.geom_core.specs.declared.turn.Place.{Place}
use Rattle.tech_rules.specs.Rules.{RuleValues}
use Rattle.design_model.specs.Drawing.{outline_shape, position_shape}
use Rattle.design_model.specs.Netlist.{Netlist}
use Rattle.design_model.specs.declared.design.CellKind.{CellKind}
use Rattle.design_model.specs.declared.design.Inst.{Inst}
use Rattle.design_model.specs.declared.design.Pin.{Pin}
use Rattle.design_model.specs.declared.design.Position.{Position}
use Rattle.design_model.specs.declared.design.Terminal.{Terminal}
use Rattle.feed_cells.specs.declared.fed.Item.{Item}
use Rattle.feed_cells.specs.declared.fed.Item.TheVariants.{Cell, Feed}
use Rattle.channel_stack.specs.declared.placed.PlacedItem.{PlacedItem}
use Rattle.cif_text.specs.Written as written

-- a label: its name, and the shape in whose middle and on whose layer it stands
pub record Mark : Type 0 where
  pub name : List ℕ
  pub shape : Shape

abbrev pub label_of : Mark → written.MainItem
label_of m = written.label m.name m.shape

-- a label in the middle of a shape of a cell's drawing, where the cell stands at a place
abbrev pub mark_at : Place → List ℕ → Shape → Mark
mark_at place name shape = record { name = name; shape = moved_shape (turn_at place) shape }

-- the number of the first pin of a net
abbrev pub first_pin : List Pin → ℕ → ℕ
first_pin pins net = position_or_len (λ (p : Pin). p.net == net) pins

-- those of so many nets, of which the first has this number
abbrev pub first_pins_from : List Pin → ℕ → ℕ → List ℕ
first_pins_from pins net zero = []
first_pins_from pins net (suc count) = first_pin pins net ∷ first_pins_from pins (suc net) count

-- those of the nets of a design, in the order of the nets
unfoldable pub first_pins : Netlist → List ℕ
first_pins d = first_pins_from d.pins 1 (length d.nets)

-- the number of the pin at a terminal of an instance, if there is one
abbrev pub is_pin_of : ℕ → ℕ → Pin → Bool
is_pin_of instance terminal p = p.instance == instance && p.terminal == terminal

unfoldable pub pin_at : List Pin → ℕ → ℕ → Option ℕ
pin_at pins instance terminal = position (is_pin_of instance terminal) pins

-- a name, if it can be written
abbrev pub writable_name : Option (List ℕ) → Option (List ℕ)
writable_name None = None
writable_name (Some name) = if is_name name then Some name else None

-- the name of the net that begins with a pin of this number, if it can be written; none where the pin is not its net's first one
abbrev pub begun_at : Netlist → ℕ → Option Pin → Option (List ℕ)
begun_at d n None = None
begun_at d n (Some p) = if first_pin d.pins p.net == n then writable_name (slice_get d.nets (p.net - 1)) else None

unfoldable pub begun_net : Netlist → ℕ → Option (List ℕ)
begun_net d n = begun_at d n (slice_get d.pins n)

-- the rectangle of the first position of a terminal
unfoldable pub terminal_shape : RuleValues → CellKind → ℕ → Option Shape
terminal_shape r kind terminal = option_map (position_shape r kind.height) (find (λ (p : Position). p.terminal == terminal) kind.positions)

-- the label of the net that begins at a terminal of a cell, if one does
unfoldable pub terminal_mark : RuleValues → Netlist → ℕ → CellKind → Place → ℕ → Option Mark
terminal_mark r d instance kind place terminal =
    option_and_then (λ (shape : Shape). option_and_then (λ (pin : ℕ). option_map (λ (name : List ℕ). mark_at place name shape) (begun_net d pin))
    (pin_at d.pins instance terminal)) (terminal_shape r kind terminal)

-- those of the terminals of a cell, of which the first has this number
abbrev pub terminal_marks : RuleValues → Netlist → ℕ → CellKind → Place → ℕ → List Terminal → List Mark
terminal_marks r d instance kind place n [] = []
terminal_marks r d instance kind place n (t ∷ ts) =
    option_to_list (terminal_mark r d instance kind place n) ++ terminal_marks r d instance kind place (suc n) ts

-- the labels of a cell: its own name in the middle of its outline, and those of the nets that begin at its terminals
abbrev pub kind_marks : RuleValues → Netlist → ℕ → Inst → Place → Option CellKind → List Mark
kind_marks r d instance inst place None = []
kind_marks r d instance inst place (Some kind) =
    mark_at place inst.name (outline_shape r kind) ∷ terminal_marks r d instance kind place 0 kind.terminals

abbrev pub instance_marks : RuleValues → Netlist → ℕ → Place → Option Inst → List Mark
instance_marks r d instance place None = []
instance_marks r d instance place (Some inst) = kind_marks r d instance inst place (slice_get d.kinds inst.kind)

-- a feed has none
abbrev pub placed_marks : RuleValues → Netlist → Item → Place → List Mark
placed_marks r d (Cell s) place = instance_marks r d s.instance place (slice_get d.instances s.instance)
placed_marks r d (Feed net) place = []

-- the labels of an item, where labels are written
abbrev pub item_marks : Bool → RuleValues → Netlist → PlacedItem → List Mark
item_marks true r d p = placed_marks r d p.item p.place
item_marks false r d p = []
