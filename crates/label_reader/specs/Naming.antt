-- cells by their labels
use Rattle.std.specs.Prelude.{◌+◌, ℕ, ℤ, int_le, List, [], ◌∷◌, ◌++◌, Bool, ◌&&◌, Option, None, Some, find, option_map, if◌then◌else◌}
use Rattle.std.specs.List.{list_any}
use Rattle.std.specs.Option.{option_and_then, option_to_list}
use Rattle.std.specs.Str.{bytes_eq}
use Rattle.geom_core.specs.Extent.{Extent}
use Rattle.geom_core.specs.declared.corner.Corner.{Corner}
use Rattle.geom_core.specs.declared.layout.Shape.{Shape}
use Rattle.cif_text.specs.CifReads.{is_open_behind}
use Rattle.cif_text.specs.declared.command.CifCommand.{CifCommand}
use Rattle.cif_text.specs.declared.command.CifCommand.TheVariants as commands
use Rattle.cif_text.specs.declared.command.UserKind.TheVariants as users
use Rattle.cif_text.specs.Labels.{PlacedLabel, label_of}
use Rattle.cif_text.specs.Meaning.{layer_behind}
use Rattle.cif_text.specs.Scales.{doubled_corner, scaled_corner}
use Rattle.cif_reader.specs.Expansion.{Progress}
use Rattle.cif_reader.specs.Expanders.{called_shapes, with_waiting}
use Rattle.label_reader.specs.declared.definitions.DefinitionPlace.{DefinitionPlace}
use Rattle.label_reader.specs.declared.labels.PlacedName.{PlacedName}
use Rattle.label_reader.specs.Tops.{is_at_top}

-- a label of a level whose numbers count as a / b centimicrons each, where its place is whole in half centimicrons
abbrev pub placed_at : ℕ → ℕ → PlacedLabel → Option PlacedName
placed_at a b label =
    option_map (λ (place : Corner). record { name = label.name; place = place }) (scaled_corner a b (doubled_corner (record { x = label.x; y = label.y })))

-- the label that a command puts on the outline layer, where that is the present one
abbrev pub label_by : ℕ → ℕ → List ℕ → Option (List ℕ) → CifCommand → Option PlacedName
label_by a b outline (Some layer) (commands.User users.Label text) = if bytes_eq layer outline then option_and_then (placed_at a b) (label_of text) else None
label_by a b outline layer c = None

-- the labels of the top on the outline layer; the first command has this number, a definition is open or not, and the top has this layer
abbrev pub labels_from : Option DefinitionPlace → ℕ → ℕ → List ℕ → ℕ → Bool → Option (List ℕ) → List CifCommand → List PlacedName
labels_from top a b outline i inside layer [] = []
labels_from top a b outline i inside layer (c ∷ cs) =
    if is_at_top top i inside
    then option_to_list (label_by a b outline layer c) ++ labels_from top a b outline (i + 1) (is_open_behind inside c) (layer_behind layer c) cs
    else labels_from top a b outline (i + 1) (is_open_behind inside c) layer cs

-- a label lies in a shape on the outline layer
abbrev pub is_between : ℤ → ℤ → ℤ → Bool
is_between low z high = int_le low z && int_le z high

abbrev pub holds : Extent → Corner → Bool
holds rect place = is_between rect.x0 place.x rect.x1 && is_between rect.y0 place.y rect.y1

abbrev pub is_on : List ℕ → PlacedName → Shape → Bool
is_on outline label s = bytes_eq s.layer outline && holds s.rect label.place

-- the first label inside the outline of what is called
abbrev pub label_on : List ℕ → List PlacedName → List Shape → Option PlacedName
label_on outline found shapes = find (λ label. list_any (is_on outline label) shapes) found

abbrev pub name_of : PlacedName → List ℕ
name_of label = label.name

-- where the top has labels, they name its calls, and no other name waits
abbrev pub named : List ℕ → List PlacedName → Progress → CifCommand → Progress
named outline [] p c = p
named outline (label ∷ others) p c = with_waiting (option_map name_of (label_on outline (label ∷ others) (called_shapes p.state c))) p
