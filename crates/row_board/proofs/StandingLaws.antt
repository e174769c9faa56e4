use Rattle.std.proofs.Common.{◌≡◌, ◌≢◌, ◌<◌, ◌≤◌, ◌⊎◌, ℕ, zero, suc, ◌+◌, ◌*◌, List, [], ◌∷◌, length, get_or, take, set, Bool, true, false, cond, Option, None, Some, refl, ap, ap₂, sym, ◌∙◌, inl, inr, arith, subst}
use Rattle.std.proofs.lemmas.Bool.Decides.{nat_tests}
use Rattle.std.proofs.lemmas.List.{length-set}
use Rattle.std.proofs.lemmas.Option.{none-some, same_Some, slice_get-get_or, slice_get_within}
use Rattle.std.specs.List.{slice_get}
use Rattle.std.specs.Option.{option_map}
use Rattle.std.specs.Prelude.{nat_eq, slice_set}
use Rattle.design_model.specs.Netlist.{Netlist}
use Rattle.row_board.specs.Standings.{AreApart, HasEntered, KeepsOthers, put_in, standing_at}
use Rattle.row_model.specs.Widths.{columns_of, row_width}
use Rattle.row_model.specs.declared.rows.Seat.{Seat}
use Rattle.row_board.specs.Spot.{Spot}
use Rattle.row_model.proofs.WidthLaws.{width-cons}
use Rattle.std_laws.proofs.Places.{get-set-same, get-set-other}
use Rattle.std_laws.proofs.Tests.{equal_or_not}

-- the width of one more seat
pub width-more : (d : Netlist) (seats : List Seat) (k : ℕ) (s : Seat) → slice_get seats k ≡ Some s → row_width d (take (k + 1) seats) ≡ row_width d (take k seats) + columns_of d s.instance
width-more d [] k s at = absurd (none-some s at)
width-more d (x ∷ xs) zero s at =
    let same : x ≡ s = same_Some x s at in
    omega (arith, width-cons d x [], ap (λ (y : Seat). columns_of d y.instance) same)
width-more d (x ∷ xs) (suc k) s at =
    let rest = width-more d xs k s at in
    let number : suc k + 1 ≡ suc (k + 1) = omega arith in
    let more = ap (λ (n : ℕ). row_width d (take n (x ∷ xs))) number in
    omega (arith, more, rest, width-cons d x (take (k + 1) xs), width-cons d x (take k xs))

-- one more seat is entered
pub entered-more : (d : Netlist) (row from place n : ℕ) (seats : List Seat) (s : Seat) (old : List Spot) → HasEntered d row from place seats old → AreApart n seats
    → slice_get seats place ≡ Some s → s.instance < length old → HasEntered d row from (place + 1) seats (set old s.instance (standing_at d row place seats s))
entered-more d row from place n seats s old so_far apart at within = record { each = λ k t low high here. by k t low high here (equal_or_not k place) }
  where
    by : (k : ℕ) (t : Seat) → from ≤ k → k < place + 1 → slice_get seats k ≡ Some t → (k ≡ place) ⊎ (k ≢ place)
        → slice_get (set old s.instance (standing_at d row place seats s)) t.instance ≡ Some (standing_at d row k seats t)
    by k t low high here (inl same) =
        let one : t ≡ s = same_Some t s (sym here ∙ ap (slice_get seats) same ∙ at) in
        ap (λ (x : Seat). slice_get (set old s.instance (standing_at d row place seats s)) x.instance) one
        ∙ get-set-same old s.instance (standing_at d row place seats s) within
        ∙ ap₂ (λ (m : ℕ) (x : Seat). Some (standing_at d row m seats x)) (sym same) (sym one)
    by k t low high here (inr other) =
        get-set-other old s.instance t.instance (standing_at d row place seats s) (λ h. other (apart.apart k place t s here at h))
        ∙ so_far.each k t low (omega arith) here

-- and the others stay
pub others-more : (from place : ℕ) (seats : List Seat) (s : Seat) (old now : List Spot) (new : Spot) → KeepsOthers from place seats old now
    → from ≤ place → slice_get seats place ≡ Some s → KeepsOthers from (place + 1) seats old (set now s.instance new)
others-more from place seats s old now new so_far low at = record {
  each = λ j none.
      get-set-other now s.instance j new (λ h. none place s low (omega arith) at (sym h))
      ∙ so_far.each j (λ k t from_k to_k here. none k t from_k (omega arith) here);
}

-- the seats of a row are entered from one place up to another, where the next one begins in column `left`
pub record AreEnteredTo (d : Netlist) (row from place : ℕ) (seats : List Seat) (left : ℕ) (old now : List Spot) : Type 0 where
  pub count : length now ≡ length old
  pub begins : left ≡ row_width d (take place seats)
  pub near : left ≤ 100000000 * place
  pub entered : HasEntered d row from place seats now
  pub others : KeepsOthers from place seats old now

-- at first no seat is entered
pub entered-none : (d : Netlist) (row from : ℕ) (seats : List Seat) (left : ℕ) (table : List Spot) → left ≡ row_width d (take from seats) → left ≤ 100000000 * from
    → AreEnteredTo d row from from seats left table table
entered-none d row from seats left table begins near = record {
  count = refl;
  begins = begins;
  near = near;
  entered = record { each = λ k s low high. absurd (omega (arith, low, high)) };
  others = record { each = λ i off. refl };
}

pub entered-step : (d : Netlist) (row from place : ℕ) (seats : List Seat) (left width : ℕ) (old now new : List Spot) (z : Seat) → AreEnteredTo d row from place seats left old now → AreApart (length old) seats
    → from ≤ place → place < length seats → width ≡ columns_of d (get_or seats place z).instance → width ≤ 100000000
    → new ≡ set now (get_or seats place z).instance (record { row = row; mirror = (get_or seats place z).mirror; place = place; left = left })
    → AreEnteredTo d row from (place + 1) seats (left + width) old new
entered-step d row from place seats left width old now new z so_far apart low within is_width few put =
    let s = get_or seats place z in
    let at = slice_get-get_or seats place z within in
    let inside = apart.within place (get_or seats place z) at in
    let wide = width-more d seats place (get_or seats place z) at in
    record {
      count = ap length put ∙ length-set now s.instance _ ∙ so_far.count;
      begins = omega (arith, wide, is_width, so_far.begins);
      near = omega (arith, few, so_far.near);
      entered = subst (HasEntered d row from (place + 1) seats) (sym put)
          (subst (λ (n : ℕ). HasEntered d row from (place + 1) seats (set now (get_or seats place z).instance (record { row = row; mirror = (get_or seats place z).mirror; place = place; left = n })))
          (sym so_far.begins) (entered-more d row from place (length old) seats s now so_far.entered apart at (omega (arith, inside, so_far.count))));
      others = subst (KeepsOthers from (place + 1) seats old) (sym put) (others-more from place seats s old now _ so_far.others low at);
    }

-- a row of rows is written
pub row-put : (rows : List (List Seat)) (row place : ℕ) (seat : Seat) (item new : List Seat) → row < length rows → slice_get rows row ≡ Some item → new ≡ set item place seat
    → (r : ℕ) → slice_get (set rows row new) r ≡ option_map (put_in row place seat r) (slice_get rows r)
row-put rows row place seat item new within at is r = by (nat_eq r row) refl
  where
    same : (o : Option (List Seat)) → o ≡ option_map (λ (seats : List Seat). seats) o
    same None = refl
    same (Some x) = refl

    by : (b : Bool) → nat_eq r row ≡ b → slice_get (set rows row new) r ≡ option_map (λ (seats : List Seat). cond b (slice_set seats place seat) seats) (slice_get rows r)
    by true test =
        let same : r ≡ row = grind (arith, nat_tests) in
        ap (slice_get (set rows row new)) same ∙ get-set-same rows row new within ∙ ap (λ (l : List Seat). Some l) is
        ∙ sym (ap (option_map (λ (seats : List Seat). slice_set seats place seat)) (ap (slice_get rows) same ∙ at))
    by false test =
        let other : r ≢ row = grind (arith, nat_tests) in
        get-set-other rows row r new other ∙ same (slice_get rows r)

-- and none where there is no such row
pub row-past : (rows : List (List Seat)) (row place : ℕ) (seat : Seat) → length rows ≤ row
    → (r : ℕ) → slice_get rows r ≡ option_map (put_in row place seat r) (slice_get rows r)
row-past rows row place seat past r = by (slice_get rows r) refl
  where
    by : (o : Option (List Seat)) → slice_get rows r ≡ o → o ≡ option_map (put_in row place seat r) o
    by None at = refl
    by (Some seats) at =
        let in_rows = slice_get_within rows r seats at in
        let off : nat_eq r row ≡ false = grind (arith, nat_tests, in_rows) in
        ap (λ (b : Bool). Some (cond b (slice_set seats place seat) seats)) (sym off)
