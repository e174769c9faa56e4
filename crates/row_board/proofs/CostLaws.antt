use Rattle.std.proofs.Common.{◌≡◌, ◌<◌, ◌≤◌, ℕ, ◌+◌, ◌*◌, List, length, map, Bool, true, false, cond, Option, None, Some, refl, ap, ap₂, sym, ◌∙◌, arith}
use Rattle.std.specs.List.{range_with_len, AllByRecursion}
use Rattle.std.specs.Prelude.{nat_eq}
use Rattle.design_model.proofs.DesignPins.{pins-within}
use Rattle.design_model.specs.Netlist.{IsNetlist, Netlist}
use Rattle.design_model.specs.declared.design.Pin.{Pin}
use Rattle.row_board.specs.Cost.{net_cost, pins_of_net, spread}
use Rattle.row_board.specs.NetCosts.{table_costs}
use Rattle.row_board.specs.NetPins.{cost_by, measured, net_pin, offset_of, pin_column, pin_row}
use Rattle.row_board.specs.Spot.{Spot}
use Rattle.row_board.specs.Standings.{AreEntered, standing_in}
use Rattle.row_board.specs.Weights.{Weighing}
use Rattle.row_model.specs.Rows.{ArePlaced}
use Rattle.row_model.specs.Stands.{column_at, column_of, first_column, row_in, row_of}
use Rattle.row_model.specs.Widths.{columns_of}
use Rattle.row_model.specs.declared.rows.Seat.{Seat}
use Rattle.row_model.specs.Stand.{Stand}
use Rattle.row_board.proofs.PlaceLaws.{told, IsTold}
use Rattle.std_laws.proofs.Every.{every-filtered}
use Rattle.std_laws.proofs.Ranges.{range-bounds}
use Rattle.std_laws.proofs.Images.{map-map, map-same}

-- a pin's column by a table is its column in the rows
column-told : (d : Netlist) (rows : List (List Seat)) (standings : List Spot) (p : Pin) → IsTold d rows standings p.instance → pin_column standings (net_pin d p) ≡ column_of d rows p
unfolding column_of
column-told d rows standings p is =
    ap (λ (s : Spot). s.left + cond s.mirror (offset_of true (columns_of d p.instance) (first_column d p)) (offset_of false (columns_of d p.instance) (first_column d p))) (ap standing_in is.told)
    ∙ by (first_column d p) is.standing.mirror
    ∙ sym (ap (λ (o : Option Stand). column_at o (columns_of d p.instance) (first_column d p)) is.stand)
  where
    by : (o : Option ℕ) (m : Bool) → is.standing.left + cond m (offset_of true (columns_of d p.instance) o) (offset_of false (columns_of d p.instance) o)
        ≡ column_at (Some (record { row = is.standing.row; left = is.standing.left; mirror = m })) (columns_of d p.instance) o
    by None true = omega arith
    by None false = omega arith
    by (Some column) true = refl
    by (Some column) false = refl

row-told : (d : Netlist) (rows : List (List Seat)) (standings : List Spot) (p : Pin) → IsTold d rows standings p.instance → pin_row standings (net_pin d p) ≡ row_of d rows p.instance
row-told d rows standings p is = ap (λ (s : Spot). s.row) (ap standing_in is.told) ∙ sym (ap row_in is.stand)

-- a net's pins are of instances of the design
pub net-pins-within : (d : Netlist) → IsNetlist d → (net : ℕ) → AllByRecursion (λ (p : Pin). p.instance < length d.instances) (pins_of_net d net)
net-pins-within d good net = every-filtered (λ (p : Pin). p.instance < length d.instances) (λ (p : Pin). nat_eq p.net net) d.pins (pins-within d good)

-- what a net costs by a right table is what it costs
pub net-right : (d : Netlist) (rows : List (List Seat)) (w : Weighing) (standings : List Spot) → IsNetlist d → ArePlaced d rows → AreEntered d rows standings → (net : ℕ)
    → cost_by d w standings net ≡ net_cost d rows w net
unfolding measured net_cost
net-right d rows w standings good placed entered net =
    ap₂ (λ (columns lines : List ℕ). spread columns + w.row_cost * spread lines)
    (map-map (net_pin d) (pin_column standings) (pins_of_net d net)
    ∙ map-same (λ (p : Pin). p.instance < length d.instances) (λ (p : Pin). pin_column standings (net_pin d p)) (column_of d rows)
    (λ p below. column-told d rows standings p (told d rows standings p.instance placed entered below)) (pins_of_net d net) (net-pins-within d good net))
    (map-map (net_pin d) (pin_row standings) (pins_of_net d net)
    ∙ map-same (λ (p : Pin). p.instance < length d.instances) (λ (p : Pin). pin_row standings (net_pin d p)) (λ (p : Pin). row_of d rows p.instance)
    (λ p below. row-told d rows standings p (told d rows standings p.instance placed entered below)) (pins_of_net d net) (net-pins-within d good net))

-- so right tables have the costs of all nets
pub costs-right : (d : Netlist) (rows : List (List Seat)) (w : Weighing) (standings : List Spot) → IsNetlist d → ArePlaced d rows → AreEntered d rows standings
    → table_costs d w standings ≡ map (net_cost d rows w) (range_with_len 0 (length d.nets + 1))
costs-right d rows w standings good placed entered =
    map-same (λ (n : ℕ). (0 ≤ n) × (n < 0 + (length d.nets + 1))) (cost_by d w standings) (net_cost d rows w) (λ net within. net-right d rows w standings good placed entered net)
    (range_with_len 0 (length d.nets + 1)) (range-bounds 0 (length d.nets + 1))
