-- a design and rows as contracts see them, and that the rows hold each instance of the design once
use Rattle.design_model.specs.Netlist.{IsNetlist}
use Rattle.row_model.specs.Placed.{Placing}
use Rattle.row_model.specs.Rows.{ArePlaced}
use Rattle.row_model.specs.declared.placed.PlacedRows.TheInside.{Inside}

abbrev pub placing_in : Inside → Placing
placing_in a = record { design = a.design.now; rows = a.rows.now }

pub record IsPlacing (a : Inside) : Type 0 where
  pub good : IsNetlist a.design.now
  pub placed : ArePlaced a.design.now a.rows.now
