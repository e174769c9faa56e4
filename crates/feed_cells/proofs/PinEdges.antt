use Rattle.std.proofs.Common.{◌≡◌, ◌⊎◌, ◌<◌, ℕ, ap, ◌∙◌, List, [], ◌∷◌, true, false, eqb, ◌&&◌, Option, Some, Contains, length, arith}
use Rattle.std.proofs.lemmas.Option.{slice_get-get_or}
use Rattle.std.specs.List.{find, list_any, slice_get}
use Rattle.std.specs.Option.{option_and_then, option_map, is_some}
use Rattle.design_model.specs.Netlist.{IsKind, IsNetlist, Netlist}
use Rattle.design_model.specs.PinOrder.{kind_terminals, pin_pair, power_at}
use Rattle.design_model.specs.declared.design.CellKind.{CellKind}
use Rattle.design_model.specs.declared.design.Inst.{Inst}
use Rattle.design_model.specs.declared.design.Pin.{Pin}
use Rattle.design_model.specs.declared.design.Position.{Position}
use Rattle.design_model.proofs.PinsInOrder.{pin-free}
use Rattle.row_model.specs.Stands.{column_in, is_on, positions_in, row_of}
use Rattle.row_model.specs.declared.rows.Seat.{Seat}
use Rattle.row_model.proofs.StandLaws.{stand-within}
use Rattle.feed_cells.specs.Crossings.{has_edge}
use Rattle.std_laws.proofs.Members.{all-get}

-- a position of a terminal is on one of the two edges
on-edge : (positions : List Position) (terminal : ℕ) → list_any (λ (a : Position). eqb a.terminal terminal) positions ≡ true
    → (is_some (column_in (find (λ (a : Position). eqb a.terminal terminal && is_on false a) positions)) ≡ true)
    ⊎ (is_some (column_in (find (λ (a : Position). eqb a.terminal terminal && is_on true a) positions)) ≡ true)
on-edge [] terminal any = grind arith
on-edge (a ∷ positions) terminal any = grind (arith, on-edge positions terminal)

-- a terminal of an instance's kind that is no power has a position
reached-of : (d : Netlist) → IsNetlist d → (i : Option Inst) (terminal : ℕ) → power_at (kind_terminals d.kinds i) terminal ≡ Some false
    → list_any (λ (a : Position). eqb a.terminal terminal) (positions_in (option_and_then (λ (i : Inst). slice_get d.kinds i.kind) i)) ≡ true
reached-of d good i terminal free = grind (arith, reached)
  where
    reached : (n : ℕ) (k : CellKind) → slice_get d.kinds n ≡ Some k → power_at k.terminals terminal ≡ Some false → list_any (λ (a : Position). eqb a.terminal terminal) k.positions ≡ true
    reached n k at free = grind (arith, (all-get IsKind d.kinds n k good.kinds at).reached terminal)

-- each pin of a design has a position, on the lower or on the upper edge
pub pin-edge : (d : Netlist) → IsNetlist d → (p : Pin) → Contains d.pins p → (has_edge d false p ≡ true) ⊎ (has_edge d true p ≡ true)
pin-edge d good p member =
    on-edge _ p.terminal (reached-of d good (slice_get d.instances p.instance) p.terminal
    (pin-free d good member.0 p.instance p.terminal
    (ap (option_map pin_pair) (slice_get-get_or d.pins member.0 p member.1 ∙ ap (λ (q : Pin). Some q) member.2))))

-- an instance's row is one of the rows
pub row-within : (d : Netlist) (rows : List (List Seat)) (instance : ℕ) → 0 < length rows → row_of d rows instance < length rows
row-within d rows instance some = grind (arith, stand-within d rows instance)
