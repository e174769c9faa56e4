use Rattle.std.proofs.Common.{◌≡◌, ℕ, List, [], ◌∷◌, true, false, refl}
use Rattle.design_model.specs.Netlist.{Netlist}
use Rattle.design_model.specs.declared.design.CellKind.{CellKind}
use Rattle.design_model.specs.declared.design.Inst.{Inst}
use Rattle.design_model.specs.declared.design.Pin.{Pin}
use Rattle.row_model.specs.Changes.{swapped}
use Rattle.row_board.specs.Cost.{cost_of, net_cost}
use Rattle.row_model.specs.Start.{upright}
use Rattle.row_model.specs.Stands.{column_of}
use Rattle.row_board.specs.Weights.{Weighing}
use Rattle.row_model.specs.Widths.{all_columns}
use Rattle.row_model.specs.declared.rows.Seat.{Seat}

-- a kind of so many columns with one terminal, which has a position above in the first column
abbrev cell : ℕ → CellKind
cell columns = record {
  name = [];
  columns = columns;
  height = 40;
  terminals = record { name = []; power = false } ∷ [];
  positions = record { terminal = 0; top = true; column = 0 } ∷ [];
}

abbrev inst : ℕ → Inst
inst kind = record { name = []; kind = kind }

abbrev pin_in : ℕ → ℕ → Pin
pin_in instance net = record { instance = instance; terminal = 0; net = net }

abbrev weights : Weighing
weights = record { row_cost = 4; length_cost = 1 }

-- two nets of two pins each that cross two rows of two cells
abbrev crossed : Netlist
crossed = record {
  kinds = cell 1 ∷ [];
  height = 40;
  instances = inst 0 ∷ (inst 0 ∷ (inst 0 ∷ (inst 0 ∷ [])));
  pins = pin_in 0 1 ∷ (pin_in 1 2 ∷ (pin_in 2 2 ∷ (pin_in 3 1 ∷ [])));
  nets = [] ∷ ([] ∷ []);
}

abbrev two_by_two : List (List Seat)
two_by_two = (upright 0 ∷ (upright 1 ∷ [])) ∷ ((upright 2 ∷ (upright 3 ∷ [])) ∷ [])

crossed-cost : cost_of crossed two_by_two weights ≡ 10
unfolding all_columns column_of cost_of net_cost
crossed-cost = refl

crossed-less : cost_of crossed (swapped 2 3 two_by_two) weights ≡ 8
unfolding all_columns column_of cost_of net_cost swapped
crossed-less = refl

-- a net of two pins in a row with a cell between them
abbrev apart : Netlist
apart = record {
  kinds = cell 1 ∷ [];
  height = 40;
  instances = inst 0 ∷ (inst 0 ∷ (inst 0 ∷ []));
  pins = pin_in 0 1 ∷ (pin_in 1 2 ∷ (pin_in 2 1 ∷ []));
  nets = [] ∷ ([] ∷ []);
}

apart-costs : List ℕ
apart-costs =
    let rows : List (List Seat) = (upright 0 ∷ (upright 1 ∷ (upright 2 ∷ []))) ∷ [] in
    cost_of apart rows weights ∷ (cost_of apart (swapped 1 2 rows) weights ∷ (cost_of apart (swapped 1 2 (swapped 1 2 rows)) weights ∷ []))

two-one-two : apart-costs ≡ 2 ∷ (1 ∷ (2 ∷ []))
unfolding apart-costs all_columns column_of cost_of net_cost swapped
two-one-two = refl
