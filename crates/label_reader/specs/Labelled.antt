-- the layout of a text whose cells are told by labels
use Rattle.std.specs.Prelude.{◌+◌, ℕ, List, [], ◌∷◌, Bool, false, Option, None, Some, slice_get, if◌then◌else◌, Result, Ok}
use Rattle.geom_core.specs.declared.layout.Layout.{Layout}
use Rattle.cif_text.specs.CifReads.{is_open_behind}
use Rattle.cif_text.specs.declared.command.CifCommand.{CifCommand}
use Rattle.cif_text.specs.declared.command.CifCommand.TheVariants as commands
use Rattle.cif_text.specs.Meaning.{layout_of}
use Rattle.read_base.specs.Steps.{◌>>=◌}
use Rattle.cif_reader.specs.declared.fault.ExpandKind.{ExpandKind}
use Rattle.cif_reader.specs.Expansion.{Progress, advance, at_first, refused_at}
use Rattle.cif_reader.specs.Expanders.{at_scale}
use Rattle.label_reader.specs.declared.definitions.DefinitionPlace.{DefinitionPlace}
use Rattle.label_reader.specs.declared.labels.PlacedName.{PlacedName}
use Rattle.label_reader.specs.Defining.{Reading, in_order, stays}
use Rattle.label_reader.specs.Naming.{labels_from, named}
use Rattle.label_reader.specs.Tops.{is_at_top, top}

-- a command of the top, where these labels name what is called
abbrev pub top_command : List ℕ → List PlacedName → ℕ → Progress → CifCommand → Reading
top_command outline found i p c = if stays c then refused_at i (advance (named outline found p c) c) else Ok p

-- the commands of the top, where these labels name what is called; the first command has this number, and a definition is open or not
abbrev pub top_taken : Option DefinitionPlace → List ℕ → List PlacedName → ℕ → Bool → Progress → List CifCommand → Reading
top_taken at outline found i inside p [] = Ok p
top_taken at outline found i inside p (c ∷ cs) =
    (if is_at_top at i inside then top_command outline found i p c else Ok p) >>= λ q. top_taken at outline found (i + 1) (is_open_behind inside c) q cs

-- the scale of the top: that of its definition, or that of the main level
abbrev pub start_scale : Option CifCommand → ℕ × ℕ
start_scale (Some (commands.Start n a b)) = (a, b)
start_scale _ = (1, 1)

abbrev pub top_scale : List CifCommand → Option DefinitionPlace → ℕ × ℕ
top_scale cs None = (1, 1)
top_scale cs (Some d) = start_scale (slice_get cs d.start)

-- the labels of the top on the outline layer
abbrev pub labels : Option DefinitionPlace → ℕ × ℕ → List ℕ → List CifCommand → List PlacedName
labels at scale outline cs = labels_from at scale.0 scale.1 outline 0 false None cs

-- the layout, or the first refusal and the number of its command: the definitions come first, in an order in which each stands behind those that it calls, and then the top
unfoldable pub labelled : List ℕ → List CifCommand → Result Layout (ExpandKind × ℕ)
labelled outline cs = do
  p ← in_order cs at_first
  q ← top_taken (top cs) outline (labels (top cs) (top_scale cs (top cs)) outline cs) 0 false
      (at_scale (top_scale cs (top cs)).0 (top_scale cs (top cs)).1 p) cs
  Ok (layout_of q.state.main)
