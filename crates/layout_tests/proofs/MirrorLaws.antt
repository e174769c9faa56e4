use Rattle.std.proofs.Common.{◌≡◌, ◌<◌, ◌≤◌, ◌++◌, ℕ, List, [], ◌∷◌, length, map, ap, sym, subst, refl, ◌∙◌}
use Rattle.std.specs.List.{range_with_len, IsDistinct}
use Rattle.std.specs.List.Sorted.{IsPermutation}
use Rattle.std.specs.Prelude.{nat_eq}
use Rattle.std.proofs.lemmas.List.{length-map}
use Rattle.design_model.specs.Netlist.{Netlist}
use Rattle.row_model.specs.Rows.{all_instances, ArePlaced, AreRows, instances_in}
use Rattle.row_model.specs.declared.rows.Seat.{Seat}
use Rattle.layout_tests.specs.Mirrored.{turned, turned_rows}

-- seats that are turned over are of the same instances
same-instances : (seats : List Seat) → instances_in (map turned seats) ≡ instances_in seats
same-instances [] = refl
same-instances (s ∷ seats) = ap (λ (l : List ℕ). s.instance ∷ l) (same-instances seats)

same-rows : (rows : List (List Seat)) → all_instances (turned_rows rows) ≡ all_instances rows
same-rows [] = refl
same-rows (seats ∷ rows) =
    ap (λ (l : List ℕ). l ++ all_instances (turned_rows rows)) (same-instances seats) ∙ ap (λ (l : List ℕ). instances_in seats ++ l) (same-rows rows)

-- no instance stands in them twice
pub turned_distinct : (rows : List (List Seat)) → AreRows rows → AreRows (turned_rows rows)
turned_distinct rows once = subst (λ (l : List ℕ). IsDistinct nat_eq l) (sym (same-rows rows)) once

-- and each instance stands in them once
pub turned_placed : (d : Netlist) (rows : List (List Seat)) → ArePlaced d rows → ArePlaced d (turned_rows rows)
turned_placed d rows placed = record {
  some = subst (λ (n : ℕ). 0 < n) (sym (length-map rows (map turned))) placed.some;
  few = subst (λ (n : ℕ). n ≤ 514) (sym (length-map rows (map turned))) placed.few;
  once = subst (λ (l : List ℕ). IsPermutation (range_with_len 0 (length d.instances)) l) (sym (same-rows rows)) placed.once;
}
