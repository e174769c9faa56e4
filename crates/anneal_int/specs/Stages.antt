-- the changes of a stage
use Rattle.std.specs.Prelude.{ℕ, List, fold}
use Rattle.std.specs.List.{range_with_len}
use Rattle.design_model.specs.Netlist.{Netlist}
use Rattle.row_board.specs.Weights.{Weighing}
use Rattle.row_model.specs.declared.rows.Seat.{Seat}
use Rattle.anneal_int.specs.Annealed.{after_change_at}

-- rows after so many changes from change `first` on, each judged at this temperature
unfoldable pub after_stage : Netlist → Weighing → ℕ → ℕ → List (List Seat) → ℕ → ℕ → List (List Seat)
after_stage d w seed t rows first n = fold (after_change_at d w seed t) rows (range_with_len first n)
