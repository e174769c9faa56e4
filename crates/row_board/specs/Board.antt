-- tables of placed rows
use Rattle.std.specs.Prelude.{◌≡◌, List, length, map}
use Rattle.design_model.specs.Netlist.{Netlist}
use Rattle.row_board.specs.Cost.{target_of}
use Rattle.row_board.specs.RowLengths.{Lengths}
use Rattle.row_board.specs.Spot.{Spot}
use Rattle.row_board.specs.Standings.{AreEntered}
use Rattle.row_model.specs.Rows.{ArePlaced}
use Rattle.row_model.specs.Widths.{row_width}
use Rattle.row_model.specs.declared.rows.Seat.{Seat}

-- the widths of rows and their target
abbrev pub lengths_of : Netlist → List (List Seat) → Lengths
lengths_of d rows = record { widths = map (row_width d) rows; target = target_of d (length rows) }

-- a table tells where each instance of placed rows stands
pub record AreSeated (d : Netlist) (rows : List (List Seat)) (standings : List Spot) : Type 0 where
  pub placed : ArePlaced d rows
  pub count : length standings ≡ length d.instances
  pub entered : AreEntered d rows standings

-- and another how wide the rows are
pub record IsBoard (d : Netlist) (rows : List (List Seat)) (standings : List Spot) (lengths : Lengths) : Type 0 where
  pub seated : AreSeated d rows standings
  pub are_lengths : lengths ≡ lengths_of d rows
