use Rattle.std.proofs.Common.{◌≡◌, ap, ℕ, List, [], take, Option, None}
use Rattle.std.specs.Option.{ForSome}
use Rattle.std.specs.Prelude.{option_map}
use Rattle.geom_core.specs.declared.layout.Shape.{Shape}
use Rattle.geom_core.specs.Extent.{Extent}
use Rattle.geom_core.specs.Turning.{Turning, moved}
use Rattle.cif_text.specs.Symbols.{Symbol, moved_shapes}
use Rattle.cif_reader.specs.declared.table.Kept.{Kept}
use Rattle.cif_reader.specs.Limits.{first_far, coordinates_of}
use Rattle.cif_reader.specs.Sides.{AreSidesNear}
use Rattle.cif_reader.specs.Table.{AreAround, symbol_at, symbols_behind, items_drawn}
use Rattle.cif_reader.proofs.BoundLemmas.{around-moved, around-near}
use Rattle.cif_reader.proofs.TableLemmas.{IsCopied}

-- the shapes of a symbol of the table
pub shapes-at : (table : List Kept) (of : ℕ) (kept : Kept) → IsCopied table of kept
    → (symbol_at (symbols_behind [] table) of).shapes ≡ items_drawn (symbols_behind [] (take of table)) kept.items.items
shapes-at table of kept there = ap (λ (s : Symbol). s.shapes) there.symbol

-- shapes in a rectangle that is near under a turn are near under it
pub near-none : (t : Turning) (bounds : Option Extent) (shapes : List Shape) → AreAround bounds shapes → ForSome (option_map (moved t) bounds) AreSidesNear
    → first_far (coordinates_of (moved_shapes t shapes)) ≡ None
near-none t bounds shapes around near = around-near (option_map (moved t) bounds) (moved_shapes t shapes) near (around-moved t bounds shapes around)
