use Rattle.std.specs.Prelude.{◌≡◌, ℕ, suc, ◌+◌, ◌≤◌, ℤ, List, [], ◌∷◌, ◌++◌, length, true, Option, Some, None, unwrap_or, IfSome, IsSome}
use Rattle.std.specs.List.{AllByRecursion}
use Rattle.geom_core.specs.declared.layout.Shape.{Shape}
use Rattle.geom_core.specs.declared.layout.Cell.{Cell}
use Rattle.geom_core.specs.declared.layout.Layout.{Layout}
use Rattle.geom_core.specs.declared.turn.Place.{Place}
use Rattle.geom_core.specs.Extent.{Extent}
use Rattle.geom_core.specs.LayerText.{is_layer_text}
use Rattle.geom_core.specs.Moving.{turn_at}
use Rattle.geom_core.specs.Reach.{IsInReach}
use Rattle.cif_text.specs.Numbers.{greatest}
use Rattle.cif_text.specs.Printable.{IsCifNumber, IsSize, IsNatural}
use Rattle.cif_text.proofs.PrintableTexts.{IsNameText}
use Rattle.cif_text.specs.Scales.{doubled, around}
use Rattle.cif_text.specs.Symbols.{Symbol, symbol_of, moved_shapes}
use Rattle.cif_text.specs.Written.{WrittenSymbol, MainItem, alone, copy, label, middle}

-- written symbols as symbols, of which the first has this number
abbrev pub symbol_at : ℕ → WrittenSymbol → Symbol
symbol_at n d = record { number = n; name = d.name; shapes = d.shapes }

abbrev pub symbols_from : ℕ → List WrittenSymbol → List Symbol
symbols_from n [] = []
symbols_from n (d ∷ ds) = symbol_at n d ∷ symbols_from (suc n) ds

abbrev pub copied_shapes : Place → Option Symbol → List Shape
copied_shapes place None = []
copied_shapes place (Some symbol) = moved_shapes (turn_at place) symbol.shapes

-- the shapes of an item; a label has none, and is no cell
abbrev pub item_shapes : List Symbol → MainItem → List Shape
item_shapes symbols (alone s) = s ∷ []
item_shapes symbols (copy name n place) = copied_shapes place (symbol_of n symbols)
item_shapes symbols (label name s) = []

-- the cell of a named copy, behind so many shapes
abbrev pub cell_of : ℕ → List ℕ → Place → Option Symbol → List Cell
cell_of first name place None = []
cell_of first name place (Some symbol) =
    record { name = name; symbol = unwrap_or symbol.name []; turn = turn_at place; first = first; count = length symbol.shapes } ∷ []

abbrev pub item_cells : List Symbol → ℕ → MainItem → List Cell
item_cells symbols first (alone s) = []
item_cells symbols first (copy None n place) = []
item_cells symbols first (copy (Some name) n place) = cell_of first name place (symbol_of n symbols)
item_cells symbols first (label name s) = []

abbrev pub items_shapes : List Symbol → List MainItem → List Shape
items_shapes symbols [] = []
items_shapes symbols (i ∷ is) = item_shapes symbols i ++ items_shapes symbols is

abbrev pub items_cells : List Symbol → ℕ → List MainItem → List Cell
items_cells symbols first [] = []
items_cells symbols first (i ∷ is) = item_cells symbols first i ++ items_cells symbols (first + length (item_shapes symbols i)) is

-- the layout that is written
abbrev pub written_layout : List WrittenSymbol → List MainItem → Layout
written_layout ds is = record { cells = items_cells (symbols_from 1 ds) 0 is; shapes = items_shapes (symbols_from 1 ds) is }

-- a rectangle that a box draws, with numbers that can be read
pub record IsBox (e : Extent) : Type 0 where
  pub long : ℤ
  pub wide : ℤ
  pub cx : ℤ
  pub cy : ℤ
  pub drawn : around long wide cx cy ≡ e
  pub long_size : IsSize long
  pub wide_size : IsSize wide
  pub cx_near : IsCifNumber cx
  pub cy_near : IsCifNumber cy

pub record IsShape (s : Shape) : Type 0 where
  pub layer : is_layer_text s.layer ≡ true
  pub box : IsBox s.rect

-- a place whose offset is whole in centimicrons
pub record IsWhole (place : Place) : Type 0 where
  pub across : ℤ
  pub up : ℤ
  pub across_is : doubled across ≡ place.dx
  pub up_is : doubled up ≡ place.dy
  pub across_near : IsCifNumber across
  pub up_near : IsCifNumber up

pub record IsDrawn (d : WrittenSymbol) : Type 0 where
  pub name : IfSome d.name IsNameText
  pub shapes : AllByRecursion IsShape d.shapes

-- a copy of a symbol that there is; one with a name is of a symbol with a name
pub record IsCopy (symbols : List Symbol) (name : Option (List ℕ)) (n : ℕ) (place : Place) : Type 0 where
  pub number : IsNatural n
  pub symbol : Symbol
  pub found : symbol_of n symbols ≡ Some symbol
  pub named : IfSome name IsNameText
  pub kind : IfSome name (λ text. IsSome symbol.name)
  pub whole : IsWhole place

-- a label with a name that can be written, on a layer, at a place whose numbers have few digits
pub record IsLabel (name : List ℕ) (s : Shape) : Type 0 where
  pub named : IsNameText name
  pub layer : is_layer_text s.layer ≡ true
  pub across : IsInReach (middle s.rect.x0 s.rect.x1)
  pub up : IsInReach (middle s.rect.y0 s.rect.y1)

abbrev pub IsItem : List Symbol → MainItem → Type 0
IsItem symbols (alone s) = IsShape s
IsItem symbols (copy name n place) = IsCopy symbols name n place
IsItem symbols (label name s) = IsLabel name s

-- what can be written so that it reads and means what was written
pub record IsWritable (ds : List WrittenSymbol) (is : List MainItem) : Type 0 where
  pub few : length ds ≤ greatest
  pub symbols : AllByRecursion IsDrawn ds
  pub items : AllByRecursion (IsItem (symbols_from 1 ds)) is
