use Rattle.std.proofs.Common.{◌≡◌, ◌<◌, ◌≤◌, ◌⊎◌, inl, inr, ℕ, ◌+◌, ◌-◌, ◌*◌, List, length, get_or, take, Bool, true, false, cond, Option, Some, refl, ap, sym, ◌∙◌, subst, arith}
use Rattle.std.proofs.lemmas.Bool.Decides.{nat_tests}
use Rattle.std.proofs.lemmas.List.{length-take}
use Rattle.std.proofs.lemmas.Option.{same_Some, slice_get-get_or, slice_get_within}
use Rattle.std.specs.List.{slice_get}
use Rattle.std.specs.Prelude.{nat_eq}
use Rattle.design_model.specs.Netlist.{IsNetlist, Netlist}
use Rattle.row_board.specs.Moving.{IsAt, column_behind, left_of, moved_end, row_length, row_there}
use Rattle.row_model.specs.Rows.{ArePlaced, AreRows}
use Rattle.row_board.specs.Standings.{AreEntered, HasEntered, IsEntered, KeepsOthers, standing_at, standing_in, standing_of}
use Rattle.row_model.specs.Widths.{columns_of, row_width}
use Rattle.row_model.specs.declared.rows.Seat.{Seat}
use Rattle.row_board.specs.Spot.{Spot}
use Rattle.row_board.proofs.StandingLaws.{width-more}
use Rattle.row_board.proofs.PlaceLaws.{one-place, row-here, row-short, told, width-few}
use Rattle.std_laws.proofs.Tests.{inside-decided}

-- the seat before a place tells its first column
pub left-step : (d : Netlist) (row place k : ℕ) (seats : List Seat) (s : Seat) (st : Spot) (standings : List Spot) → k + 1 ≡ place → slice_get seats k ≡ Some s
    → slice_get standings s.instance ≡ Some (standing_at d row k seats s) → st ≡ standing_of standings s.instance
    → st.left + columns_of d s.instance ≡ row_width d (take place seats)
left-step d row place k seats s st standings next at right told =
    let same : st ≡ standing_at d row k seats s = told ∙ ap standing_in right in
    let more = width-more d seats k s at in
    omega (arith, more, ap (λ (a : Spot). a.left) same, ap (λ (n : ℕ). row_width d (take n seats)) next)

-- and it is not far
pub left-near : (d : Netlist) → IsNetlist d → (place : ℕ) (seats : List Seat) → row_width d (take place seats) ≤ 100000000 * place
left-near d good place seats = let few = width-few d good (take place seats) in let short = length-take place seats in omega (arith, few, short)

pub left-told : (d : Netlist) (row place : ℕ) (seats : List Seat) (standings : List Spot) → IsNetlist d → place ≤ length seats
    → ((k : ℕ) (s : Seat) → k + 1 ≡ place → slice_get seats k ≡ Some s → slice_get standings s.instance ≡ Some (standing_at d row k seats s))
    → left_of d standings seats place ≡ row_width d (take place seats)
left-told d row place seats standings good within before = by (nat_eq place 0) refl
  where
    by : (b : Bool) → nat_eq place 0 ≡ b → cond b 0 (column_behind d standings (slice_get seats (place - 1))) ≡ row_width d (take place seats)
    by true test =
        let none : place ≡ 0 = grind (arith, nat_tests) in
        sym (ap (λ (n : ℕ). row_width d (take n seats)) none)
    by false test =
        let some : 0 < place = grind (arith, nat_tests) in
        let z : Seat = record { instance = 0; mirror = false } in
        let s = get_or seats (place - 1) z in
        let at = slice_get-get_or seats (place - 1) z (omega arith) in
        let next : place - 1 + 1 ≡ place = omega arith in
        ap (column_behind d standings) at
        ∙ left-step d row place (place - 1) seats s (standing_of standings s.instance) standings next at (before (place - 1) s next at) refl

-- what was entered of a row
pub entered-there : (d : Netlist) (rows : List (List Seat)) (row from to : ℕ) (seats : List Seat) (standings : List Spot) → slice_get rows row ≡ Some seats
    → HasEntered d row from to seats standings → (k : ℕ) → from ≤ k → k < to → IsEntered d rows standings row k
entered-there d rows row from to seats standings in_row has k low high = λ seats' s in_row' at.
    let same : seats' ≡ seats = same_Some seats' seats (sym in_row' ∙ in_row) in
    has.each k s low high (ap (λ (l : List Seat). slice_get l k) (sym same) ∙ at) ∙ ap (λ (l : List Seat). Some (standing_at d row k l s)) (sym same)

-- what was entered before stays
pub entered-kept : (d : Netlist) (rows : List (List Seat)) (row from to : ℕ) (seats : List Seat) (old new : List Spot) → AreRows rows → slice_get rows row ≡ Some seats
    → HasEntered d row from to seats new → KeepsOthers from to seats old new → (r k : ℕ) → IsEntered d rows old r k → IsEntered d rows new r k
entered-kept d rows row from to seats old new different in_row has others r k was = λ seats' s in_row' at. by seats' s in_row' at (inside-decided row from to r k)
  where
    by : (seats' : List Seat) (s : Seat) → slice_get rows r ≡ Some seats' → slice_get seats' k ≡ Some s → ((r ≡ row) × (from ≤ k) × (k < to)) ⊎ ((r ≡ row) × (from ≤ k) × (k < to) → ⊥)
        → slice_get new s.instance ≡ Some (standing_at d r k seats' s)
    by seats' s in_row' at (inl here) =
        let there = entered-there d rows row from to seats new in_row has k here.1 here.2 seats' s (ap (slice_get rows) (sym here.0) ∙ in_row') at in
        there ∙ ap (λ (n : ℕ). Some (standing_at d n k seats' s)) (sym here.0)
    by seats' s in_row' at (inr off) =
        others.each s.instance (λ j t low high here same.
        let one = one-place d rows different r row k j seats' seats s t in_row' at in_row here (sym same) in
        off (one.0, omega (arith, one.1, low), omega (arith, one.1, high)))
        ∙ was seats' s in_row' at

-- one more row is entered
pub row-entered : (d : Netlist) (rows : List (List Seat)) (row : ℕ) (seats : List Seat) (old new : List Spot) → AreRows rows → row < length rows → seats ≡ row_there (slice_get rows row)
    → HasEntered d row 0 (length seats) seats new → KeepsOthers 0 (length seats) seats old new → ((r k : ℕ) → r < row → IsEntered d rows old r k) → (r k : ℕ) → r < row + 1 → IsEntered d rows new r k
row-entered d rows row seats old new different within is has others before r k below = by (nat_eq r row) refl
  where
    in_row : slice_get rows row ≡ Some seats
    in_row = row-here rows row within ∙ ap (λ (l : List Seat). Some l) (sym is)

    by : (b : Bool) → nat_eq r row ≡ b → IsEntered d rows new r k
    by false test = entered-kept d rows row 0 (length seats) seats old new different in_row has others r k (before r k (less r row below test))
      where
        less : (r row : ℕ) → r < row + 1 → nat_eq r row ≡ false → r < row
        less r row below test = grind (arith, nat_tests)
    by true test = λ seats' s in_row' at.
        let same : r ≡ row = grind (arith, nat_tests) in
        let one : seats' ≡ seats = same_Some seats' seats (sym in_row' ∙ ap (slice_get rows) same ∙ in_row) in
        let here = slice_get_within seats k s (ap (λ (l : List Seat). slice_get l k) (sym one) ∙ at) in
        entered-there d rows row 0 (length seats) seats new in_row has k (omega arith) here seats' s (ap (slice_get rows) (sym same) ∙ in_row') at
        ∙ ap (λ (n : ℕ). Some (standing_at d n k seats' s)) (sym same)

-- what a right table says of an instance's seat
pub record IsCell (rows : List (List Seat)) (instance : ℕ) (st : Spot) : Type 0 where
  pub at : IsAt rows st.row st.place (record { instance = instance; mirror = st.mirror })
  pub row : st.row < length rows
  pub place : st.place < 20000
  pub within : st.place < row_length (slice_get rows st.row)

pub cell-told : (d : Netlist) (rows : List (List Seat)) (standings : List Spot) (instance : ℕ) (st : Spot) → IsNetlist d → ArePlaced d rows → AreEntered d rows standings
    → instance < length d.instances → st ≡ standing_of standings instance → IsCell rows instance st
cell-told d rows standings instance st good placed entered within is =
    let all = told d rows standings instance placed entered within in
    let same : all.standing ≡ st = sym (is ∙ ap standing_in all.told) in
    let few = row-short d rows good placed all.standing.row all.seats all.in_row in
    let low = slice_get_within all.seats all.standing.place (record { instance = instance; mirror = all.standing.mirror }) all.at in
    let long : length all.seats ≡ row_length (slice_get rows all.standing.row) = sym (ap (λ (o : Option (List Seat)). length (row_there o)) all.in_row) in
    subst (IsCell rows instance) same (record {
      at = record { seats = all.seats; in_row = all.in_row; at = all.at };
      row = slice_get_within rows all.standing.row all.seats all.in_row;
      place = omega (arith, few, low);
      within = omega (arith, low, long);
    })

-- the end of a reach is behind its seat and in its row
pub end-ordered : (even same : Bool) (place other count : ℕ) → place < count → place < moved_end even same place other count
end-ordered true same place other count within = omega arith
end-ordered false true place other count within = omega arith
end-ordered false false place other count within = within

pub end-within : (even same : Bool) (place other count : ℕ) → place < count → (same ≡ true → other < count) → moved_end even same place other count ≤ count
end-within true same place other count within both = omega arith
end-within false true place other count within both = let less = both refl in omega arith
end-within false false place other count within both = omega arith
