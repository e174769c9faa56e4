use Rattle.std.proofs.Common.{◌≡◌, ◌≤◌, ℕ, zero, suc, ◌+◌, List, [], ◌∷◌, ◌++◌, length, refl, ap, ap₂, sym, ◌∙◌, subst, arith, append_assoc, length-append}
use Rattle.std.proofs.lemmas.List.{append-nil}
use Rattle.std.proofs.lemmas.List.Sorted.{IsPermutation-append, IsPermutation-append_comm, IsPermutation-append_right, IsPermutation-refl, IsPermutation-trans}
use Rattle.std.specs.List.{range_with_len}
use Rattle.std.specs.List.Sorted.{IsPermutation}
use Rattle.row_model.specs.Rows.{all_instances, ArePlaced, instances_in}
use Rattle.row_model.specs.Start.{seats_from}
use Rattle.row_model.specs.declared.rows.Seat.{Seat}
use Rattle.row_model.proofs.StartLaws.{upright-instances}
use Rattle.port_rows.specs.PortRows.{cells_in, HoldCells, port_row, with_port_rows}
use Rattle.port_rows.specs.declared.ported.Ported.{Ported}
use Rattle.std_laws.proofs.Ranges.{range-append}

instances-append : (first more : List (List Seat)) → all_instances (first ++ more) ≡ all_instances first ++ all_instances more
instances-append [] more = refl
instances-append (r ∷ rs) more = ap (λ (l : List ℕ). instances_in r ++ l) (instances-append rs more) ∙ sym (append_assoc (instances_in r) (all_instances rs) (all_instances more))

-- the row of ports holds them in order
row-instances : (first count : ℕ) → all_instances (port_row first count) ≡ range_with_len first count
row-instances first zero = refl
row-instances first (suc more) = append-nil (instances_in (seats_from first (suc more))) ∙ upright-instances (range_with_len first (suc more))

row-few : (first count : ℕ) → length (port_row first count) ≤ 1
row-few first zero = omega arith
row-few first (suc more) = omega arith

-- rows with those of ports hold each instance of the design once
pub rows-placed : (p : Ported) (rows : List (List Seat)) → HoldCells p rows → ArePlaced p.design (with_port_rows p rows)
unfolding with_port_rows
rows-placed p rows hold =
    let cells = cells_in p in
    let south = range_with_len cells p.south in
    let north = range_with_len (cells + p.south) p.north in
    let lower = port_row cells p.south in
    let upper = port_row (cells + p.south) p.north in
    let long = length-append (lower ++ rows) upper in
    let rest = length-append lower rows in
    let few_lower = row-few cells p.south in
    let few_upper = row-few (cells + p.south) p.north in
    let all : all_instances ((lower ++ rows) ++ upper) ≡ (south ++ all_instances rows) ++ north =
    instances-append (lower ++ rows) upper ∙ ap₂ (λ (a b : List ℕ). a ++ b)
    (instances-append lower rows ∙ ap (λ (l : List ℕ). l ++ all_instances rows) (row-instances cells p.south)) (row-instances (cells + p.south) p.north) in
    let some : cells + (p.south + p.north) ≡ length p.design.instances = omega (arith, hold.ports) in
    let zero_cells : 0 + cells ≡ cells = omega arith in
    let split : range_with_len 0 (length p.design.instances) ≡ (range_with_len 0 cells ++ south) ++ north =
    ap (range_with_len 0) (sym some) ∙ range-append 0 cells (p.south + p.north)
    ∙ ap (λ (k : ℕ). range_with_len 0 cells ++ range_with_len k (p.south + p.north)) zero_cells
    ∙ ap (λ (l : List ℕ). range_with_len 0 cells ++ l) (range-append cells p.south p.north)
    ∙ sym (append_assoc (range_with_len 0 cells) south north) in
    let moved : IsPermutation ((range_with_len 0 cells ++ south) ++ north) ((south ++ all_instances rows) ++ north) =
    IsPermutation-append (range_with_len 0 cells ++ south) (south ++ all_instances rows) north north
    (IsPermutation-trans (range_with_len 0 cells ++ south) (south ++ range_with_len 0 cells) (south ++ all_instances rows) (IsPermutation-append_comm (range_with_len 0 cells) south)
    (IsPermutation-append_right south (range_with_len 0 cells) (all_instances rows) hold.once))
    (IsPermutation-refl north) in
    record {
      some = omega (arith, hold.some);
      few = omega (arith, hold.few);
      once = subst (λ (l : List ℕ). IsPermutation l (all_instances ((lower ++ rows) ++ upper))) (sym split)
          (subst (λ (l : List ℕ). IsPermutation ((range_with_len 0 cells ++ south) ++ north) l) (sym all) moved);
    }

-- the rows, put one behind another
pub rows-made : (p : Ported) (rows inner none lower middle whole : List (List Seat)) (first : ℕ) → first ≡ cells_in p → none ≡ [] → inner ≡ rows
    → lower ≡ none ++ port_row first p.south → middle ≡ lower ++ inner → whole ≡ middle ++ port_row (first + p.south) p.north → whole ≡ with_port_rows p rows
unfolding with_port_rows
rows-made p rows inner none lower middle whole first is_first is_none is_inner is_lower is_middle is_whole =
    is_whole
    ∙ ap (λ (l : List (List Seat)). l ++ port_row (first + p.south) p.north)
    (is_middle ∙ ap₂ (λ (a b : List (List Seat)). a ++ b) (is_lower ∙ ap (λ (l : List (List Seat)). l ++ port_row first p.south) is_none) is_inner)
    ∙ ap (λ (k : ℕ). port_row k p.south ++ rows ++ port_row (k + p.south) p.north) is_first
