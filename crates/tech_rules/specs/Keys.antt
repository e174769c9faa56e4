-- the rules file: its keys, what stands at them, and the rules of its bytes
use Rattle.std.specs.Prelude.{codes, ℕ, List, ◌++◌, Option, Some, None}
use Rattle.tech_rules.specs.declared.key.Key.{Key}
use Rattle.tech_rules.specs.declared.key.Key.TheVariants.{Version, Yal, Decimals, GridColumn, GridTrack, GridCenti, GridPin, HorizontalLayer, HorizontalWidth, HorizontalSpace, VerticalLayer, VerticalWidth, VerticalSpace, CutLayer, CutSize, CutEnclose, CutSpace, OutlineLayer, AnnealTemperature, AnnealStages, AnnealMoves, AnnealRowCost, AnnealLengthCost, AnnealStart}

-- the table that a key stands in, or none for a key at the top of the file
abbrev pub section_of : Key → Option (List ℕ)
section_of Version = None
section_of Yal = None
section_of Decimals = None
section_of GridColumn = Some (codes "grid")
section_of GridTrack = Some (codes "grid")
section_of GridCenti = Some (codes "grid")
section_of GridPin = Some (codes "grid")
section_of HorizontalLayer = Some (codes "horizontal")
section_of HorizontalWidth = Some (codes "horizontal")
section_of HorizontalSpace = Some (codes "horizontal")
section_of VerticalLayer = Some (codes "vertical")
section_of VerticalWidth = Some (codes "vertical")
section_of VerticalSpace = Some (codes "vertical")
section_of CutLayer = Some (codes "cut")
section_of CutSize = Some (codes "cut")
section_of CutEnclose = Some (codes "cut")
section_of CutSpace = Some (codes "cut")
section_of OutlineLayer = Some (codes "outline")
section_of AnnealTemperature = Some (codes "anneal")
section_of AnnealStages = Some (codes "anneal")
section_of AnnealMoves = Some (codes "anneal")
section_of AnnealRowCost = Some (codes "anneal")
section_of AnnealLengthCost = Some (codes "anneal")
section_of AnnealStart = Some (codes "anneal")

-- a key's word in its table
abbrev pub word_of : Key → List ℕ
word_of Version = codes "version"
word_of Yal = codes "yal"
word_of Decimals = codes "decimals"
word_of GridColumn = codes "column"
word_of GridTrack = codes "track"
word_of GridCenti = codes "centi"
word_of GridPin = codes "pin"
word_of HorizontalLayer = codes "layer"
word_of HorizontalWidth = codes "width"
word_of HorizontalSpace = codes "space"
word_of VerticalLayer = codes "layer"
word_of VerticalWidth = codes "width"
word_of VerticalSpace = codes "space"
word_of CutLayer = codes "layer"
word_of CutSize = codes "size"
word_of CutEnclose = codes "enclose"
word_of CutSpace = codes "space"
word_of OutlineLayer = codes "layer"
word_of AnnealTemperature = codes "temperature"
word_of AnnealStages = codes "stages"
word_of AnnealMoves = codes "moves"
word_of AnnealRowCost = codes "row_cost"
word_of AnnealLengthCost = codes "length_cost"
word_of AnnealStart = codes "start"

-- a word in a table, with a dot between
abbrev pub dotted : Option (List ℕ) → List ℕ → List ℕ
dotted None word = word
dotted (Some section) word = section ++ codes "." ++ word

-- a key's text
abbrev pub name_of : Key → List ℕ
name_of key = dotted (section_of key) (word_of key)
