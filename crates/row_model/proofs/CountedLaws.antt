use Rattle.std.proofs.Common.{◌≡◌, ◌<◌, ◌≤◌, ℕ, zero, suc, ◌+◌, ◌-◌, ◌*◌, ◌/◌, List, ◌++◌, length, map, ap, ap₂, sym, ◌∙◌, subst, arith}
use Rattle.std.proofs.Math.Nat.{mul-div_cancel, zero-div}
use Rattle.std.proofs.lemmas.List.FromFn.{length-map-range_with_len}
use Rattle.std.proofs.lemmas.List.Sorted.{IsPermutation-refl}
use Rattle.std.specs.List.{range_with_len}
use Rattle.std.specs.List.Sorted.{IsPermutation}
use Rattle.design_model.specs.Netlist.{Netlist}
use Rattle.row_model.specs.Rows.{all_instances, ArePlaced}
use Rattle.tech_rules.specs.declared.sections.StartBy.{StartBy}
use Rattle.tech_rules.specs.declared.sections.StartBy.TheVariants.{Width, Count}
use Rattle.row_model.specs.Start.{counted_row, counted_rows, rounded_up, seats_from, start_rows}
use Rattle.row_model.specs.Widths.{all_columns}
use Rattle.row_model.proofs.StartLaws.{upright-instances, width-placed}
use Rattle.std_laws.proofs.Ranges.{range-split}
use Rattle.std_laws.proofs.Numbers.{quotient-grows, grows-on}

-- rows from f r up to f (r + 1) hold the numbers in their order
joined-parts : (f : ℕ → ℕ) → ((r : ℕ) → f r ≤ f (r + 1)) → (r m : ℕ)
    → all_instances (map (λ (k : ℕ). seats_from (f k) (f (k + 1) - f k)) (range_with_len r m)) ≡ range_with_len (f r) (f (r + m) - f r)
joined-parts f grows r zero =
    let same : r + 0 ≡ r = omega arith in
    let none : f r - f r ≡ 0 = omega arith in
    rw (same, none)
joined-parts f grows r (suc m) =
    let here : f r ≤ f (r + 1) = grows r in
    let later : f (r + 1) ≤ f ((r + 1) + m) = grows-on f grows (r + 1) m in
    let on : (r + 1) + m ≡ r + suc m = omega arith in
    let from : f r + (f (r + 1) - f r) ≡ f (r + 1) = omega arith in
    let size : f ((r + 1) + m) - f (r + 1) ≡ (f ((r + 1) + m) - f r) - (f (r + 1) - f r) = omega arith in
    ap₂ (λ (front back : List ℕ). front ++ back) (upright-instances (range_with_len (f r) (f (r + 1) - f r))) (joined-parts f grows (r + 1) m)
    ∙ ap₂ (λ (a k : ℕ). range_with_len (f r) (f (r + 1) - f r) ++ range_with_len a k) (sym from) size
    ∙ range-split (f r) (f (r + 1) - f r) (f ((r + 1) + m) - f r) (omega arith)
    ∙ ap (λ (k : ℕ). range_with_len (f r) (f k - f r)) on

-- rows of the same count hold each instance once
pub counted-placed : (d : Netlist) (rows : ℕ) → 0 < rows → rows ≤ 512 → ArePlaced d (counted_rows (length d.instances) rows)
counted-placed d rows some few =
    let n = length d.instances in
    let long : length (counted_rows n rows) ≡ rows = length-map-range_with_len (counted_row n rows) 0 rows in
    let none : n * 0 / rows ≡ 0 = ap (λ (k : ℕ). k / rows) (let same : n * 0 ≡ 0 = omega arith in same) ∙ zero-div rows in
    let end : 0 + rows ≡ rows = omega arith in
    let whole : n * rows / rows ≡ n = mul-div_cancel n some in
    let all : all_instances (counted_rows n rows) ≡ range_with_len (n * 0 / rows) (n * (0 + rows) / rows - n * 0 / rows) =
    joined-parts (λ (r : ℕ). n * r / rows) (λ r. quotient-grows n rows r some) 0 rows in
    let size : n - 0 ≡ n = omega arith in
    let held : all_instances (counted_rows n rows) ≡ range_with_len 0 n = rw (end, none, whole, size) at all in
    record {
      some = omega arith;
      few = omega arith;
      once = subst (λ (l : List ℕ). IsPermutation (range_with_len 0 n) l) (sym held) (IsPermutation-refl (range_with_len 0 n));
    }

-- the rows that a design begins with hold each instance once
pub start-placed : (by : StartBy) (d : Netlist) (rows : ℕ) → 0 < rows → rows ≤ 512 → ArePlaced d (start_rows by d rows)
unfolding start_rows
start-placed Width d rows some few = width-placed d (rounded_up (all_columns d) rows) rows some few
start-placed Count d rows some few = counted-placed d rows some few
