-- the commands of a written layout, and what they mean
use Rattle.std.specs.Prelude.{if◌then◌else◌, ℕ, suc, ℤ, pos, ◌+ℤ◌, ◌-ℤ◌, int_div, false, List, [], ◌∷◌, ◌++◌, Option, Some, None}
use Rattle.std.specs.Fmt.{signed_decimal}
use Rattle.std.specs.Str.{bytes_eq}
use Rattle.geom_core.specs.declared.layout.Shape.{Shape}
use Rattle.geom_core.specs.declared.turn.Place.{Place}
use Rattle.geom_core.specs.Extent.{Extent}
use Rattle.cif_text.specs.declared.command.CifCommand.{CifCommand}
use Rattle.cif_text.specs.declared.command.CifCommand.TheVariants as commands
use Rattle.cif_text.specs.declared.command.UserKind.{UserKind}
use Rattle.cif_text.specs.declared.command.UserKind.TheVariants as users
use Rattle.cif_text.specs.Printing.{blanked}

-- a symbol that is written: its name, if it has one, and its shapes
pub record WrittenSymbol : Type 0 where
  pub name : Option (List ℕ)
  pub shapes : List Shape

-- what is written at the main level: a shape alone; a copy of the symbol of a number, with its own name if it has one; or a label with this name in the
-- middle of a shape, on the shape's layer
pub data MainItem : Type 0 where
  alone : Shape → MainItem
  copy : Option (List ℕ) → ℕ → Place → MainItem
  label : List ℕ → Shape → MainItem

-- the middle between two places in half centimicrons, in centimicrons
abbrev pub middle : ℤ → ℤ → ℤ
middle low high = int_div (low +ℤ high) (pos 4)

-- the box of a rectangle, with its length along x; a rectangle counts in half centimicrons, and a box in centimicrons
abbrev pub box_of : Extent → CifCommand
box_of e =
    commands.Box (int_div (e.x1 -ℤ e.x0) (pos 2)) (int_div (e.y1 -ℤ e.y0) (pos 2))
    (middle e.x0 e.x1) (middle e.y0 e.y1) false

-- the call of a symbol at a place
abbrev pub call_to : ℕ → Place → CifCommand
call_to n place = commands.Call n place.mirror 0 (int_div place.dx (pos 2)) (int_div place.dy (pos 2))

-- the layer's command, where it is not the one that was last written
abbrev pub change : Option (List ℕ) → List ℕ → List CifCommand
change None layer = commands.Layer layer ∷ []
change (Some old) layer = if bytes_eq old layer then [] else commands.Layer layer ∷ []

abbrev pub name_commands : UserKind → Option (List ℕ) → List CifCommand
name_commands kind None = []
name_commands kind (Some name) = commands.User kind name ∷ []

abbrev pub shape_commands : Option (List ℕ) → Shape → List CifCommand
shape_commands layer s = change layer s.layer ++ (box_of s.rect ∷ [])

-- shapes behind this layer
abbrev pub shapes_commands : Option (List ℕ) → List Shape → List CifCommand
shapes_commands layer [] = []
shapes_commands layer (s ∷ ss) = shape_commands layer s ++ shapes_commands (Some s.layer) ss

-- the definition of a symbol, which begins without a layer
abbrev pub symbol_commands : ℕ → WrittenSymbol → List CifCommand
symbol_commands n d =
    commands.Start n 1 1 ∷ (name_commands users.SymbolName d.name ++ (shapes_commands None d.shapes ++ (commands.Finish ∷ [])))

-- symbols, of which the first has this number
abbrev pub symbols_commands : ℕ → List WrittenSymbol → List CifCommand
symbols_commands n [] = []
symbols_commands n (d ∷ ds) = symbol_commands n d ++ symbols_commands (suc n) ds

-- a copy, behind its name
abbrev pub copy_commands : Option (List ℕ) → ℕ → Place → List CifCommand
copy_commands name n place = name_commands users.InstanceName name ++ (call_to n place ∷ [])

-- the text of a label: its name and its place
abbrev pub label_text : List ℕ → Shape → List ℕ
label_text name s = name ++ blanked (signed_decimal (middle s.rect.x0 s.rect.x1) ∷ signed_decimal (middle s.rect.y0 s.rect.y1) ∷ [])

abbrev pub label_command : List ℕ → Shape → CifCommand
label_command name s = commands.User users.Label (label_text name s)

-- a label, on the present layer
abbrev pub label_commands : Option (List ℕ) → List ℕ → Shape → List CifCommand
label_commands layer name s = change layer s.layer ++ (label_command name s ∷ [])

-- the main level, behind this layer; copies leave the layer as it is
abbrev pub items_commands : Option (List ℕ) → List MainItem → List CifCommand
items_commands layer [] = []
items_commands layer (alone s ∷ is) = shape_commands layer s ++ items_commands (Some s.layer) is
items_commands layer (copy name n place ∷ is) = copy_commands name n place ++ items_commands layer is
items_commands layer (label name s ∷ is) = label_commands layer name s ++ items_commands (Some s.layer) is

-- the layer that was written last behind items that stand behind this layer
abbrev pub layer_after : Option (List ℕ) → List MainItem → Option (List ℕ)
layer_after layer [] = layer
layer_after layer (alone s ∷ is) = layer_after (Some s.layer) is
layer_after layer (copy name n place ∷ is) = layer_after layer is
layer_after layer (label name s ∷ is) = layer_after (Some s.layer) is

-- the whole text: a comment, the symbols, numbered from 1, the main level and the end
abbrev pub layout_commands : List WrittenSymbol → List MainItem → List CifCommand
layout_commands ds is = commands.Comment ∷ (symbols_commands 1 ds ++ (items_commands None is ++ (commands.End ∷ [])))
