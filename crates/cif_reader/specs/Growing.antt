-- a symbol that draws more
use Rattle.std.specs.Prelude.{◌≡◌, ℕ, ◌+◌, max, List, [], ◌∷◌, ◌++◌, Option}
use Rattle.geom_core.specs.declared.layout.Shape.{Shape}
use Rattle.geom_core.specs.Extent.{Extent}
use Rattle.cif_text.specs.Symbols.{Symbol}
use Rattle.cif_reader.specs.declared.table.Item.{Item}
use Rattle.cif_reader.specs.declared.table.Kept.{Kept}
use Rattle.cif_reader.specs.Bounds.{joined}
use Rattle.cif_reader.specs.Table.{items_drawn, IsKeptBehind}

-- what is kept of a symbol has one item more, of so many shapes in this rectangle, which gives it this depth
pub record HasItem (old new : Kept) (item : Item) (count : ℕ) (bounds : Option Extent) (depth : ℕ) : Type 0 where
  pub number : new.number ≡ old.number
  pub name : new.name ≡ old.name
  pub items : new.items.items ≡ old.items.items ++ (item ∷ [])
  pub count_is : new.count ≡ old.count + count
  pub bounds_are : new.bounds ≡ joined old.bounds bounds
  pub depth_is : new.depth ≡ max old.depth depth

-- a symbol draws some shapes more behind those before, with this depth, and is kept so
pub record Grows (symbols : List Symbol) (old new : Kept) (shapes : List Shape) (depth : ℕ) : Type 0 where
  pub number : new.number ≡ old.number
  pub name : new.name ≡ old.name
  pub drawn : items_drawn symbols new.items.items ≡ items_drawn symbols old.items.items ++ shapes
  pub depth_is : new.depth ≡ max old.depth depth
  pub is : IsKeptBehind symbols new
