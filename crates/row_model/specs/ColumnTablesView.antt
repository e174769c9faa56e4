-- a design with a table of pin columns for each cell kind, and that the tables are those of its kinds
use Rattle.std.specs.Prelude.{◌≡◌, map}
use Rattle.design_model.specs.Netlist.{IsNetlist, Netlist}
use Rattle.row_model.specs.PinColumns.{kind_columns}
use Rattle.row_model.specs.declared.cell_columns.ColumnTables.TheInside.{Inside}

abbrev pub design_in : Inside → Netlist
design_in a = a.design.now

pub record AreTables (a : Inside) : Type 0 where
  pub good : IsNetlist a.design.now
  pub tables : a.tables.items ≡ map kind_columns a.design.now.kinds
