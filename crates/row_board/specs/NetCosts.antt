-- what nets cost by a table of where instances stand
use Rattle.std.specs.Prelude.{ℕ, ◌+◌, List, length, map}
use Rattle.std.specs.List.{range_with_len}
use Rattle.design_model.specs.Netlist.{Netlist}
use Rattle.row_board.specs.NetPins.{cost_by}
use Rattle.row_board.specs.Spot.{Spot}
use Rattle.row_board.specs.Weights.{Weighing}

-- a design, what its nets are weighed by, and a table of where its instances stand
pub record Tabled : Type 0 where
  pub design : Netlist
  pub weights : Weighing
  pub standings : List Spot

-- what each net costs by a table, from net 0 on, which has no pins
abbrev pub table_costs : Netlist → Weighing → List Spot → List ℕ
table_costs d w standings = map (cost_by d w standings) (range_with_len 0 (length d.nets + 1))
