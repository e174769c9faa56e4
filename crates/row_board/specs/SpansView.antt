-- weighed rows as contracts see them, and that their table of instances and their widths are those of the rows
use Rattle.design_model.specs.Netlist.{IsNetlist}
use Rattle.row_board.specs.Board.{IsBoard}
use Rattle.row_board.specs.WeighedRows.{WeighedRows}
use Rattle.row_board.specs.Weights.{AreFew}
use Rattle.row_board.specs.declared.spans.Spans.TheInside.{Inside}

abbrev pub weighed_in : Inside → WeighedRows
weighed_in a = record { design = a.costs.design; rows = a.rows; weights = a.costs.weights }

pub record AreSpans (a : Inside) : Type 0 where
  pub good : IsNetlist a.costs.design
  pub few : AreFew a.costs.weights
  pub board : IsBoard a.costs.design a.rows a.costs.standings a.lengths
