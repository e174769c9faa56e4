use Rattle.std.proofs.Common.{◌≡◌, ◌<◌, ◌≤◌, ℕ, ◌+◌, ◌*◌, List, [], length, map, sum, false, ap, ap₂, ◌∙◌, arith, add-one}
use Rattle.std.proofs.lemmas.Bool.Decides.{nat_tests}
use Rattle.std.proofs.lemmas.List.Elements.{recursion_from_All}
use Rattle.std.proofs.lemmas.List.Sums.{sum_by-cons}
use Rattle.std.specs.List.{range_with_len}
use Rattle.std.specs.Prelude.{nat_eq}
use Rattle.design_model.specs.Netlist.{IsNetlist, Netlist}
use Rattle.design_model.specs.declared.design.Pin.{Pin}
use Rattle.row_board.specs.Board.{IsBoard}
use Rattle.row_board.specs.Cost.{cost_of, difference, net_cost, pins_of_net, spread, target_of}
use Rattle.row_board.specs.RowLengths.{Lengths}
use Rattle.row_board.specs.RowLengthsView.{misses_of}
use Rattle.row_model.specs.Stands.{column_of, row_of}
use Rattle.row_board.specs.Weights.{Weighing}
use Rattle.row_model.specs.Widths.{row_width}
use Rattle.row_board.specs.NetCosts.{table_costs}
use Rattle.row_board.proofs.CostLaws.{costs-right}
use Rattle.row_board.proofs.PinTableLaws.{filter-none}
use Rattle.row_model.specs.declared.rows.Seat.{Seat}
use Rattle.row_board.specs.Spot.{Spot}
use Rattle.std_laws.proofs.Every.{every-weaker}
use Rattle.std_laws.proofs.Images.{map-map}

-- net 0 has no pins
no-pins : (d : Netlist) → IsNetlist d → pins_of_net d 0 ≡ []
no-pins d good =
    filter-none (λ (p : Pin). nat_eq p.net 0) d.pins
    (every-weaker (λ (p : Pin). (0 < p.net) × (p.net ≤ length d.nets)) (λ (p : Pin). nat_eq p.net 0 ≡ false) (λ p h. off p.net h.0) d.pins
    (recursion_from_All (λ (p : Pin). (0 < p.net) × (p.net ≤ length d.nets)) d.pins good.nets))
  where
    off : (n : ℕ) → 0 < n → nat_eq n 0 ≡ false
    off n some = grind (arith, nat_tests)

net-none : (d : Netlist) (rows : List (List Seat)) (w : Weighing) → IsNetlist d → net_cost d rows w 0 ≡ 0
unfolding net_cost
net-none d rows w good =
    ap (λ (ps : List Pin). spread (map (column_of d rows) ps) + w.row_cost * spread (map (λ (p : Pin). row_of d rows p.instance) ps)) (no-pins d good) ∙ omega arith

pub nets-sum : (d : Netlist) (rows : List (List Seat)) (w : Weighing) → IsNetlist d → sum (map (net_cost d rows w) (range_with_len 0 (length d.nets + 1))) ≡ sum (map (net_cost d rows w) (range_with_len 1 (length d.nets)))
nets-sum d rows w good =
    ap (λ (n : ℕ). sum (map (net_cost d rows w) (range_with_len 0 n))) (add-one (length d.nets))
    ∙ sum_by-cons (λ (n : ℕ). n) (net_cost d rows w 0) (map (net_cost d rows w) (range_with_len 1 (length d.nets)))
    ∙ ap (λ (n : ℕ). n + sum (map (net_cost d rows w) (range_with_len 1 (length d.nets)))) (net-none d rows w good)
    ∙ omega arith

-- right tables tell what the rows cost
pub cost-told : (d : Netlist) (rows : List (List Seat)) (w : Weighing) (standings : List Spot) (lengths : Lengths) → IsNetlist d → IsBoard d rows standings lengths
    → sum (table_costs d w standings) + w.length_cost * sum (misses_of lengths) ≡ cost_of d rows w
unfolding cost_of
cost-told d rows w standings lengths good board =
    ap₂ (λ (n : ℕ) (l : Lengths). n + w.length_cost * sum (misses_of l)) (ap sum (costs-right d rows w standings good board.seated.placed board.seated.entered) ∙ nets-sum d rows w good) board.are_lengths
    ∙ ap (λ (l : List ℕ). sum (map (net_cost d rows w) (range_with_len 1 (length d.nets))) + w.length_cost * sum l)
    (map-map (row_width d) (λ (width : ℕ). difference width (target_of d (length rows))) rows)
