-- symbols with their depths
use Rattle.std.specs.Prelude.{◌≡◌, ◌≤◌, ℕ, List, [], ◌∷◌, ◌++◌, length, slice_index_or, Some}
use Rattle.std.specs.Option.{ForSome}
use Rattle.cif_text.specs.Symbols.{Symbol, symbol_of}
use Rattle.cif_reader.specs.declared.table.Kept.{Kept}
use Rattle.cif_reader.specs.Limits.{deepest, depth_of, most_shapes}
use Rattle.cif_reader.specs.Table.{AreAround, ReachesWithin, symbol_at, symbol_kept}

-- symbols, and their depths in the same order
pub record Tabled : Type 0 where
  pub symbols : List Symbol
  pub depths : List ℕ

-- one symbol more
abbrev pub table_with : Tabled → Kept → Tabled
table_with t kept = record { symbols = t.symbols ++ (symbol_kept t.symbols kept ∷ []); depths = t.depths ++ (kept.depth ∷ []) }

abbrev pub depth_at : List ℕ → ℕ → ℕ
depth_at depths place = slice_index_or depths place 0

-- the symbol of a number stands at a place
pub record IsPlaceOf (n : ℕ) (t : Tabled) (place : ℕ) : Type 0 where
  pub symbol : symbol_of n t.symbols ≡ Some (symbol_at t.symbols place)
  pub depth : depth_of n t.symbols t.depths ≡ depth_at t.depths place

-- what is kept of the symbol at a place
pub record IsKeptAt (t : Tabled) (place : ℕ) (kept : Kept) : Type 0 where
  pub name : (symbol_at t.symbols place).name ≡ kept.name
  pub count : length (symbol_at t.symbols place).shapes ≡ kept.count
  pub few : kept.count ≤ most_shapes
  pub around : AreAround kept.bounds (symbol_at t.symbols place).shapes
  pub reach : ForSome kept.bounds (ReachesWithin kept.depth)
  pub deep : kept.depth ≤ deepest
  pub depth : depth_at t.depths place ≡ kept.depth
