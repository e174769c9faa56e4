-- the text of a report database with the findings of a layout
use Rattle.std.specs.Prelude.{ℕ, List, [], ◌∷◌, ◌++◌, codes, map}
use Rattle.std.specs.List.{concat}
use Rattle.geom_core.specs.Extent.{Extent}
use Rattle.geom_core.specs.declared.layout.Layout.{Layout}
use Rattle.design_model.specs.Netlist.{Netlist}
use Rattle.layout_check.specs.declared.finding.Finding.{Finding}
use Rattle.layout_check.specs.declared.finding.Finding.TheVariants.{Missing, Doubled, Strange, Drawing, Overlap, OutOfRow, Narrow, Close, BareCut, Opened, Short}
use Rattle.command_ends.specs.FindingLines.{finding_words}
use Rattle.marker_text.specs.Boxes.{box_text}
use Rattle.marker_text.specs.Escaped.{escaped}
use Rattle.finding_markers.specs.Places.{places_of}
use Rattle.finding_markers.specs.Parts.{part_text}
use Rattle.finding_markers.specs.declared.texts.Part.TheVariants.{Begin, End, InCell, Item, ItemEnd, TextEnd}

-- the category of a finding: the first of its words
unfoldable pub category : Finding → List ℕ
category (Missing i) = codes "Missing"
category (Doubled c later) = codes "Doubled"
category (Strange c) = codes "Strange"
category (Drawing c) = codes "Drawing"
category (Overlap i j) = codes "Overlap"
category (OutOfRow i j) = codes "OutOfRow"
category (Narrow i) = codes "Narrow"
category (Close i j) = codes "Close"
category (BareCut i) = codes "BareCut"
category (Opened p q) = codes "Open"
category (Short p q) = codes "Short"

-- what stands between a word and these
abbrev pub gap : List (List ℕ) → List ℕ
gap [] = []
gap (word ∷ words) = codes " "

-- words with blanks between them, within the quotes of a text value
abbrev pub words_text : List (List ℕ) → List ℕ
words_text [] = []
words_text (word ∷ words) = escaped word ++ (gap words ++ words_text words)

-- a line for each box
abbrev pub boxes_text : List Extent → List ℕ
boxes_text places = concat (map box_text places)

-- an item: its category, the words that are printed of it, and a box for each of its places
unfoldable pub item_text : Netlist → Layout → Finding → List ℕ
item_text d l f =
    (part_text Item ++ (category f ++ part_text InCell))
    ++ (words_text (finding_words d l f) ++ (part_text TextEnd ++ (boxes_text (places_of d l f) ++ part_text ItemEnd)))

unfoldable pub items_text : Netlist → Layout → List Finding → List ℕ
items_text d l [] = []
items_text d l (f ∷ fs) = item_text d l f ++ items_text d l fs

-- the whole file: its beginning with the categories and the cell, an item for each finding in order, and its end
unfoldable pub markers_text : Netlist → Layout → List Finding → List ℕ
markers_text d l findings = part_text Begin ++ (items_text d l findings ++ part_text End)
