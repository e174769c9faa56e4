-- nets with their costs as contracts see them, and that their pins stand where the table of instances tells
use Rattle.std.specs.Prelude.{◌≡◌, length}
use Rattle.design_model.specs.Netlist.{IsNetlist}
use Rattle.row_board.specs.NetCosts.{Tabled}
use Rattle.row_board.specs.PinPlaces.{columns_by, rows_by}
use Rattle.row_board.specs.Weights.{AreFew}
use Rattle.row_board.specs.declared.net_costs.NetCosts.TheInside.{Inside}

abbrev pub tabled_in : Inside → Tabled
tabled_in a = record { design = a.nets; weights = a.weights; standings = a.standings.items }

-- the table has each instance, and the columns and the rows of the pins are those by it
pub record AreCosts (a : Inside) : Type 0 where
  pub good : IsNetlist a.nets
  pub weights : AreFew a.weights
  pub count : length a.standings.items ≡ length a.nets.instances
  pub columns : a.columns ≡ record { most = 2004294967295; lists = columns_by a.nets a.standings.items }
  pub rows : a.rows ≡ record { most = 513; lists = rows_by a.nets a.standings.items }
