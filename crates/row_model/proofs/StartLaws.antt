use Rattle.std.proofs.Common.{◌≡◌, ◌<◌, ◌≤◌, ℕ, zero, suc, ◌+◌, ◌-◌, ◌*◌, List, [], ◌∷◌, ◌++◌, length, map, false, refl, ap, ap₂, sym, ◌∙◌, subst, arith}
use Rattle.std.proofs.lemmas.Bool.Decides.{nat_tests}
use Rattle.std.proofs.lemmas.List.{append-nil}
use Rattle.std.proofs.lemmas.List.Sorted.{IsPermutation-refl}
use Rattle.std.specs.List.{range_with_len}
use Rattle.std.specs.List.Sorted.{IsPermutation}
use Rattle.std.specs.Prelude.{nat_le}
use Rattle.design_model.specs.Netlist.{Netlist}
use Rattle.row_model.specs.Rows.{all_instances, ArePlaced, instances_in}
use Rattle.row_model.specs.Start.{least_rows, rows_from, seats_from, taken, upright}
use Rattle.row_model.specs.Widths.{columns_of}
use Rattle.std_laws.proofs.Ranges.{range-split}

-- where so many rows are too few, the least number of them is among the next
pub least-next : (area height left k : ℕ) → 0 < left → k * k * height < area → least_rows area height left k ≡ least_rows area height (left - 1) (k + 1)
least-next area height zero k some small = absurd (omega arith)
least-next area height (suc left) k some small =
    let test : nat_le area (k * k * height) ≡ false = grind (arith, nat_tests) in
    let less : suc left - 1 ≡ left = omega arith in
    rw (test, less)

-- a row takes no more instances than there are
taken-few : (d : Netlist) (wanted first n : ℕ) → taken d wanted first n ≤ n
taken-few d zero first n = omega arith
taken-few d (suc wanted) first zero = omega arith
taken-few d (suc wanted) first (suc n) = let more = taken-few d (suc wanted - columns_of d first) (first + 1) n in omega arith

-- it takes the next one while it is not wide enough
pub taken-next : (d : Netlist) (wanted first n : ℕ) → 0 < wanted → 0 < n → taken d wanted first n ≡ suc (taken d (wanted - columns_of d first) (first + 1) (n - 1))
taken-next d zero first n some more = absurd (omega arith)
taken-next d (suc wanted) first zero some more = absurd (omega arith)
taken-next d (suc wanted) first (suc n) some more = let less : n ≡ suc n - 1 = omega arith in ap (λ (m : ℕ). suc (taken d (suc wanted - columns_of d first) (first + 1) m)) less

-- and so does one instance after others
pub taken-more : (d : Netlist) (wanted less first n count all : ℕ) → 0 < wanted → n < count → less ≡ wanted - columns_of d (first + n)
    → n + taken d wanted (first + n) (count - n) ≡ all → n + 1 + taken d less (first + (n + 1)) (count - (n + 1)) ≡ all
taken-more d wanted less first n count all some within is so_far =
    let next = taken-next d wanted (first + n) (count - n) some (omega arith) in
    let at : first + n + 1 ≡ first + (n + 1) = omega arith in
    let left : count - n - 1 ≡ count - (n + 1) = omega arith in
    let same : taken d less (first + (n + 1)) (count - (n + 1)) ≡ taken d (wanted - columns_of d (first + n)) (first + n + 1) (count - n - 1) = cc in
    omega arith

-- a row, and the others
pub rows-next : (d : Netlist) (target left first n row : ℕ) → 1 < left → row ≡ taken d target first n
    → seats_from first row ∷ rows_from d target (left - 1) (first + row) (n - row) ≡ rows_from d target left first n
rows-next d target zero first n row more is = absurd (omega arith)
rows-next d target (suc zero) first n row more is = absurd (omega arith)
rows-next d target (suc (suc left)) first n row more is =
    let less : suc (suc left) - 1 ≡ suc left = omega arith in
    ap (λ (m : ℕ). seats_from first row ∷ rows_from d target m (first + row) (n - row)) less
    ∙ ap (λ (k : ℕ). seats_from first k ∷ rows_from d target (suc left) (first + k) (n - k)) is

-- the last row takes the rest
pub rows-last : (d : Netlist) (target left first n : ℕ) → 0 < left → left ≤ 1 → seats_from first n ∷ [] ≡ rows_from d target left first n
rows-last d target zero first n some few = absurd (omega arith)
rows-last d target (suc zero) first n some few = refl
rows-last d target (suc (suc left)) first n some few = absurd (omega arith)

-- there are as many rows as are wanted
pub rows-count : (d : Netlist) (target rows first n : ℕ) → length (rows_from d target rows first n) ≡ rows
rows-count d target zero first n = refl
rows-count d target (suc zero) first n = refl
rows-count d target (suc (suc more)) first n = ap suc (rows-count d target (suc more) (first + taken d target first n) (n - taken d target first n))

pub upright-instances : (is : List ℕ) → instances_in (map upright is) ≡ is
upright-instances [] = refl
upright-instances (i ∷ is) = ap (λ (l : List ℕ). i ∷ l) (upright-instances is)

-- and they hold the instances in their order
rows-instances : (d : Netlist) (target more first n : ℕ) → all_instances (rows_from d target (suc more) first n) ≡ range_with_len first n
rows-instances d target zero first n = append-nil (instances_in (seats_from first n)) ∙ upright-instances (range_with_len first n)
rows-instances d target (suc more) first n =
    ap₂ (λ (front back : List ℕ). front ++ back) (upright-instances (range_with_len first (taken d target first n)))
    (rows-instances d target more (first + taken d target first n) (n - taken d target first n))
    ∙ range-split first (taken d target first n) n (taken-few d target first n)

-- rows that are filled up to the same width hold each instance once
pub width-placed : (d : Netlist) (target rows : ℕ) → 0 < rows → rows ≤ 512 → ArePlaced d (rows_from d target rows 0 (length d.instances))
width-placed d target zero some few = absurd (omega arith)
width-placed d target (suc more) some few =
    let count : length (rows_from d target (suc more) 0 (length d.instances)) ≡ suc more = rows-count d target (suc more) 0 (length d.instances) in
    record {
      some = omega arith;
      few = omega arith;
      once = subst (λ (l : List ℕ). IsPermutation (range_with_len 0 (length d.instances)) l) (sym (rows-instances d target more 0 (length d.instances)))
          (IsPermutation-refl (range_with_len 0 (length d.instances)));
    }
