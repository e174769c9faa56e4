-- a design and rows that hold its instances
use Rattle.std.specs.Prelude.{List}
use Rattle.design_model.specs.Netlist.{Netlist}
use Rattle.row_model.specs.declared.rows.Seat.{Seat}

-- a design and its rows
pub record Placing : Type 0 where
  pub design : Netlist
  pub rows : List (List Seat)
