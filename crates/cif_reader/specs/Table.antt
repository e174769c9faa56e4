-- the table of symbols, which keeps what each draws, and not its shapes
use Rattle.std.specs.Prelude.{◌≡◌, ◌≤◌, ◌<◌, ◌*◌, ℕ, nat_abs, List, [], ◌∷◌, ◌++◌, length, slice_index_or, Option, Some, None}
use Rattle.std.specs.List.{AllByRecursion}
use Rattle.std.specs.Option.{ForSome}
use Rattle.std.specs.Prelude.{◌≤ℤ◌}
use Rattle.geom_core.specs.declared.layout.Shape.{Shape}
use Rattle.geom_core.specs.Extent.{Extent}
use Rattle.cif_text.specs.Symbols.{Symbol, moved_shapes}
use Rattle.cif_reader.specs.declared.table.Item.{Item}
use Rattle.cif_reader.specs.declared.table.Item.TheVariants as items
use Rattle.cif_reader.specs.declared.table.Kept.{Kept}
use Rattle.cif_reader.specs.Limits.{farthest, most_shapes, deepest}
use Rattle.cif_reader.specs.Within.{IsNotFar, IsShapeWithin}

-- a symbol without a name and without shapes
abbrev pub empty_symbol : ℕ → Symbol
empty_symbol n = record { number = n; name = None; shapes = [] }

-- the symbol at a place
abbrev pub symbol_at : List Symbol → ℕ → Symbol
symbol_at symbols place = slice_index_or symbols place (empty_symbol 0)

-- the shapes that items draw, which copy these symbols
unfoldable pub items_drawn : List Symbol → List Item → List Shape
items_drawn symbols [] = []
items_drawn symbols (items.Own shape ∷ more) = shape ∷ items_drawn symbols more
items_drawn symbols (items.Copied of turn ∷ more) = moved_shapes turn (symbol_at symbols of).shapes ++ items_drawn symbols more

-- the symbol that is kept so, behind these symbols
abbrev pub symbol_kept : List Symbol → Kept → Symbol
symbol_kept symbols kept = record { number = kept.number; name = kept.name; shapes = items_drawn symbols kept.items.items }

-- these symbols, and behind them those that are kept in a table
unfoldable pub symbols_behind : List Symbol → List Kept → List Symbol
symbols_behind symbols [] = symbols
symbols_behind symbols (kept ∷ more) = symbols_behind (symbols ++ (symbol_kept symbols kept ∷ [])) more

abbrev pub symbols_of : List Kept → List Symbol
symbols_of table = symbols_behind [] table

-- an item that copies one of so many symbols, with an offset that is not too far
abbrev pub IsItem : ℕ → Item → Type 0
IsItem count (items.Own shape) = Unit {0}
IsItem count (items.Copied of turn) = (of < count) × IsNotFar turn.dx × IsNotFar turn.dy

-- both sides of a rectangle, in x and in y, lie between those of another
pub record Spans (e s : Extent) : Type 0 where
  pub x0 : e.x0 ≤ℤ s.x0
  pub x0_below : s.x0 ≤ℤ e.x1
  pub x1 : e.x0 ≤ℤ s.x1
  pub x1_below : s.x1 ≤ℤ e.x1
  pub y0 : e.y0 ≤ℤ s.y0
  pub y0_below : s.y0 ≤ℤ e.y1
  pub y1 : e.y0 ≤ℤ s.y1
  pub y1_below : s.y1 ≤ℤ e.y1

-- a rectangle around shapes, if there are any
abbrev pub AreAround : Option Extent → List Shape → Type 0
AreAround None shapes = shapes ≡ []
AreAround (Some e) shapes = AllByRecursion (λ s. Spans e s.rect) shapes

-- a rectangle that reaches no farther than so many times the farthest number
pub record ReachesWithin (times : ℕ) (e : Extent) : Type 0 where
  pub x0 : nat_abs e.x0 ≤ times * farthest
  pub y0 : nat_abs e.y0 ≤ times * farthest
  pub x1 : nat_abs e.x1 ≤ times * farthest
  pub y1 : nat_abs e.y1 ≤ times * farthest

-- what is kept of a symbol, behind these symbols, is so: its items are such, and its number of shapes and its rectangle are right
pub record IsKeptBehind (symbols : List Symbol) (kept : Kept) : Type 0 where
  pub items : AllByRecursion (IsItem (length symbols)) kept.items.items
  pub count : kept.count ≡ length (items_drawn symbols kept.items.items)
  pub few : kept.count ≤ most_shapes
  pub near : AllByRecursion IsShapeWithin (items_drawn symbols kept.items.items)
  pub around : AreAround kept.bounds (items_drawn symbols kept.items.items)
  pub reach : ForSome kept.bounds (ReachesWithin kept.depth)
  pub deep : kept.depth ≤ deepest

-- a table of symbols, behind these symbols, of which each is kept so behind those before it
unfoldable pub AreKeptBehind : List Symbol → List Kept → Type 0
AreKeptBehind symbols [] = Unit {0}
AreKeptBehind symbols (kept ∷ more) = IsKeptBehind symbols kept × AreKeptBehind (symbols ++ (symbol_kept symbols kept ∷ [])) more

abbrev pub depth_kept : Kept → ℕ
depth_kept kept = kept.depth

abbrev pub AreKept : List Kept → Type 0
AreKept table = AreKeptBehind [] table
