-- how a table keeps them
use Rattle.std.specs.Prelude.{map}
use Rattle.cif_reader.specs.declared.symbol_table.SymbolTable.TheInside.{Inside}
use Rattle.cif_reader.specs.Places.{ArePlaces}
use Rattle.cif_reader.specs.Table.{AreKept, depth_kept, symbols_of}
use Rattle.cif_reader.specs.Tabled.{Tabled}

abbrev pub tabled_in : Inside → Tabled
tabled_in t = record { symbols = symbols_of t.kept.items; depths = map depth_kept t.kept.items }

-- each symbol is kept so, and its place is told by its number
pub record AreTabled (t : Inside) : Type 0 where
  pub kept : AreKept t.kept.items
  pub places : ArePlaces t.places t.kept.items
