-- rows that are weighed
use Rattle.std.specs.Prelude.{List}
use Rattle.design_model.specs.Netlist.{Netlist}
use Rattle.row_board.specs.Weights.{Weighing}
use Rattle.row_model.specs.declared.rows.Seat.{Seat}

-- rows of a design, and what they are weighed by
pub record WeighedRows : Type 0 where
  pub design : Netlist
  pub rows : List (List Seat)
  pub weights : Weighing
