use Rattle.std.proofs.Common.{◌≡◌, ◌<◌, ◌≤◌, ℕ, zero, suc, ◌+◌, ◌-◌, List, [], ◌∷◌, ◌++◌, length, map, Some, refl, ap, sym, ◌∙◌, subst, arith, length-append}
use Rattle.std.proofs.lemmas.List.{map-append}
use Rattle.std.specs.List.{range_with_len}
use Rattle.std.specs.Prelude.{slice_get}
use Rattle.design_model.specs.Netlist.{Netlist}
use Rattle.row_model.specs.Rows.{AreRows}
use Rattle.row_model.specs.Start.{seats_from, upright}
use Rattle.row_model.specs.Stands.{row_in, row_of}
use Rattle.row_model.specs.declared.rows.Seat.{Seat}
use Rattle.row_model.proofs.PlacedLaws.{placed-distinct}
use Rattle.row_model.proofs.SeatLaws.{seat-stands}
use Rattle.port_rows.specs.PortRows.{cells_in, HaveEdges, HoldCells, IsNorth, IsSouth, port_row, with_port_rows}
use Rattle.port_rows.specs.declared.ported.Ported.{Ported}
use Rattle.port_rows.proofs.RowLaws.{rows-placed}
use Rattle.std_laws.proofs.Places.{get-behind}
use Rattle.std_laws.proofs.Ranges.{range-append}

-- a row of ports holds this one
record HoldsPort (first count n : ℕ) : Type 0 where
  pub front : List Seat
  pub back : List Seat
  pub is : port_row first count ≡ (front ++ upright n ∷ back) ∷ []

holds-port : (first count n : ℕ) → first ≤ n → n < first + count → HoldsPort first count n
holds-port first zero n from to = absurd (omega (arith, from, to))
holds-port first (suc more) n from to =
    let k : ℕ = n - first in
    let rest : ℕ = more - k in
    let long : suc more ≡ k + suc rest = omega (arith, from, to) in
    let here : first + k ≡ n = omega (arith, from) in
    record {
      front = seats_from first k;
      back = seats_from (n + 1) rest;
      is = ap (λ (l : List Seat). l ∷ [])
          (ap (seats_from first) long ∙ ap (map upright) (range-append first k (suc rest)) ∙ map-append upright (range_with_len first k) (range_with_len (first + k) (suc rest))
          ∙ ap (λ (m : ℕ). seats_from first k ++ seats_from m (suc rest)) here);
    }

-- the row of an instance whose seat is known
row-known : (d : Netlist) (rows : List (List Seat)) → AreRows rows → (row n : ℕ) (front back : List Seat) → slice_get rows row ≡ Some (front ++ upright n ∷ back) → row_of d rows n ≡ row
row-known d rows different row n front back at = ap row_in (seat-stands d rows different row front back (upright n) at)

module _ (p : Ported) (rows : List (List Seat)) (hold : HoldCells p rows) where
  abbrev lower : List (List Seat)
  lower = port_row (cells_in p) p.south

  abbrev upper : List (List Seat)
  upper = port_row (cells_in p + p.south) p.north

  different : AreRows ((lower ++ rows) ++ upper)
  unfolding with_port_rows
  different = placed-distinct p.design (with_port_rows p rows) (rows-placed p rows hold)

  south-row : (n : ℕ) → IsSouth p n → row_of p.design ((lower ++ rows) ++ upper) n ≡ 0
  south-row n is =
      let held : HoldsPort (cells_in p) p.south n = holds-port (cells_in p) p.south n is.0 is.1 in
      row-known p.design ((lower ++ rows) ++ upper) different 0 n held.front held.back (ap (λ (l : List (List Seat)). slice_get ((l ++ rows) ++ upper) 0) held.is)

  north-row : (n : ℕ) → IsNorth p n → row_of p.design ((lower ++ rows) ++ upper) n + 1 ≡ length ((lower ++ rows) ++ upper)
  north-row n is =
      let held : HoldsPort (cells_in p + p.south) p.north n = holds-port (cells_in p + p.south) p.north n is.0 is.1 in
      let front : List (List Seat) = lower ++ rows in
      let at = get-behind front upper (length front) 0 (omega arith) ∙ ap (λ (l : List (List Seat)). slice_get l 0) held.is in
      let row : row_of p.design (front ++ upper) n ≡ length front = row-known p.design (front ++ upper) different (length front) n held.front held.back at in
      let one : length upper ≡ 1 = ap length held.is in
      omega (arith, row, one, length-append front upper)

-- ports stand in the rows at the edges
pub rows-edges : (p : Ported) (rows : List (List Seat)) → HoldCells p rows → HaveEdges p (with_port_rows p rows)
unfolding with_port_rows
rows-edges p rows hold = record { south = south-row p rows hold; north = north-row p rows hold }
