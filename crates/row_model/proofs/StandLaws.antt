use Rattle.std.proofs.Common.{◌≡◌, ◌≢◌, ◌<◌, ℕ, zero, suc, ◌+◌, List, [], ◌∷◌, ◌++◌, length, Bool, true, false, cond, Option, Some, None, refl, ap, sym, ◌∙◌, subst, arith}
use Rattle.std.proofs.lemmas.List.Elements.{All-from_recursion}
use Rattle.std.proofs.lemmas.List.FromFn.{get_or-range_with_len, length-range_with_len}
use Rattle.std.proofs.lemmas.List.Sorted.{All-permutation, IsPermutation-sym}
use Rattle.std.proofs.lemmas.Option.{same_Some, slice_get_within}
use Rattle.std.specs.List.{AllByRecursion, range_with_len, slice_get}
use Rattle.std.specs.Prelude.{nat_eq}
use Rattle.row_model.specs.Stand.{Stand}
use Rattle.design_model.specs.Netlist.{Netlist}
use Rattle.row_model.specs.Rows.{all_instances, ArePlaced, instances_in}
use Rattle.row_model.specs.Stands.{or_else, stand_from, stand_in, stand_of}
use Rattle.row_model.specs.Widths.{columns_of}
use Rattle.row_model.specs.declared.rows.Seat.{Seat}
use Rattle.std_laws.proofs.Every.{every-append}
use Rattle.std_laws.proofs.Tests.{nat_eq-equal, nat_eq-differ}

-- an instance stands in the row that the stand names: there is its seat
pub record IsStand (rows : List (List Seat)) (instance : ℕ) (stand : Stand) : Type 0 where
  pub front : List Seat
  pub seat : Seat
  pub back : List Seat
  pub at : slice_get rows stand.row ≡ Some (front ++ seat ∷ back)
  pub own : seat.instance ≡ instance

-- an instance without a stand among seats has none of them
none-among : (d : Netlist) (row left : ℕ) (seats : List Seat) (instance : ℕ) → stand_in d row left seats instance ≡ None → AllByRecursion (λ (k : ℕ). k ≢ instance) (instances_in seats)
none-among d row left [] instance none = tt
none-among d row left (s ∷ seats) instance none = by (nat_eq s.instance instance) refl (none-among d row (left + columns_of d s.instance) seats instance) none
  where
    by : (b : Bool) → nat_eq s.instance instance ≡ b
        → (stand_in d row (left + columns_of d s.instance) seats instance ≡ None → AllByRecursion (λ (k : ℕ). k ≢ instance) (instances_in seats))
        → cond b (Some (record { row = row; left = left; mirror = s.mirror })) (stand_in d row (left + columns_of d s.instance) seats instance) ≡ None
        → AllByRecursion (λ (k : ℕ). k ≢ instance) (instances_in (s ∷ seats))
    by true test more none = cc
    by false test more none = (nat_eq-differ s.instance instance test, more none)

none-of-rows : (d : Netlist) (row : ℕ) (rows : List (List Seat)) (instance : ℕ) → stand_from d row rows instance ≡ None → AllByRecursion (λ (k : ℕ). k ≢ instance) (all_instances rows)
none-of-rows d row [] instance none = tt
none-of-rows d row (seats ∷ rows) instance none = by (stand_in d row 0 seats instance) refl (none-of-rows d (row + 1) rows instance) none
  where
    by : (a : Option Stand) → stand_in d row 0 seats instance ≡ a
        → (stand_from d (row + 1) rows instance ≡ None → AllByRecursion (λ (k : ℕ). k ≢ instance) (all_instances rows)) → or_else a (stand_from d (row + 1) rows instance) ≡ None → AllByRecursion (λ (k : ℕ). k ≢ instance) (all_instances (seats ∷ rows))
    by None here more none = every-append (λ (k : ℕ). k ≢ instance) (instances_in seats) (all_instances rows) (none-among d row 0 seats instance here) (more none)
    by (Some stand) here more none = cc

-- a stand among the seats of a row
record IsAmong (row : ℕ) (seats : List Seat) (instance : ℕ) (stand : Stand) : Type 0 where
  front : List Seat
  seat : Seat
  back : List Seat
  is : seats ≡ front ++ seat ∷ back
  number : stand.row ≡ row
  own : seat.instance ≡ instance

stand-among : (d : Netlist) (row left : ℕ) (seats : List Seat) (instance : ℕ) (stand : Stand) → stand_in d row left seats instance ≡ Some stand → IsAmong row seats instance stand
stand-among d row left [] instance stand there = cc
stand-among d row left (s ∷ seats) instance stand there = by (nat_eq s.instance instance) refl (stand-among d row (left + columns_of d s.instance) seats instance stand) there
  where
    by : (b : Bool) → nat_eq s.instance instance ≡ b → (stand_in d row (left + columns_of d s.instance) seats instance ≡ Some stand → IsAmong row seats instance stand)
        → cond b (Some (record { row = row; left = left; mirror = s.mirror })) (stand_in d row (left + columns_of d s.instance) seats instance) ≡ Some stand
        → IsAmong row (s ∷ seats) instance stand
    by true test more there =
        let same = same_Some (record { row = row; left = left; mirror = s.mirror }) stand there in
        record { front = []; seat = s; back = seats; is = refl; number = sym (ap (λ (a : Stand). a.row) same); own = nat_eq-equal s.instance instance test }
    by false test more there =
        let rest = more there in
        record { front = s ∷ rest.front; seat = rest.seat; back = rest.back; is = ap (λ (l : List Seat). s ∷ l) rest.is; number = rest.number; own = rest.own }

-- a stand among rows, the first of which has this number
record IsFrom (first : ℕ) (rows : List (List Seat)) (instance : ℕ) (stand : Stand) : Type 0 where
  place : ℕ
  front : List Seat
  seat : Seat
  back : List Seat
  at : slice_get rows place ≡ Some (front ++ seat ∷ back)
  number : stand.row ≡ first + place
  own : seat.instance ≡ instance

stand-of-rows : (d : Netlist) (first : ℕ) (rows : List (List Seat)) (instance : ℕ) (stand : Stand) → stand_from d first rows instance ≡ Some stand → IsFrom first rows instance stand
stand-of-rows d first [] instance stand there = cc
stand-of-rows d first (seats ∷ rows) instance stand there = by (stand_in d first 0 seats instance) refl (stand-of-rows d (first + 1) rows instance stand) there
  where
    by : (a : Option Stand) → stand_in d first 0 seats instance ≡ a
        → (stand_from d (first + 1) rows instance ≡ Some stand → IsFrom (first + 1) rows instance stand) → or_else a (stand_from d (first + 1) rows instance) ≡ Some stand → IsFrom first (seats ∷ rows) instance stand
    by None here more there =
        let rest = more there in
        record { place = suc rest.place; front = rest.front; seat = rest.seat; back = rest.back; at = rest.at; number = omega (arith, rest.number); own = rest.own }
    by (Some found) here more there =
        let among = stand-among d first 0 seats instance stand (here ∙ there) in
        record {
          place = zero;
          front = among.front;
          seat = among.seat;
          back = among.back;
          at = ap (λ (l : List Seat). Some l) among.is;
          number = omega (arith, among.number);
          own = among.own;
        }

-- a stand is that of a seat of its instance
pub stand-is : (d : Netlist) (rows : List (List Seat)) (instance : ℕ) (stand : Stand) → stand_of d rows instance ≡ Some stand → IsStand rows instance stand
stand-is d rows instance stand there =
    let from = stand-of-rows d 0 rows instance stand there in
    let number : from.place ≡ stand.row = omega (arith, from.number) in
    record {
      front = from.front;
      seat = from.seat;
      back = from.back;
      at = subst (λ (n : ℕ). slice_get rows n ≡ Some (from.front ++ from.seat ∷ from.back)) number from.at;
      own = from.own;
    }

-- a stand is in one of the rows
pub stand-within : (d : Netlist) (rows : List (List Seat)) (instance : ℕ) (stand : Stand) → stand_of d rows instance ≡ Some stand → stand.row < length rows
stand-within d rows instance stand there =
    let is = stand-is d rows instance stand there in
    slice_get_within rows stand.row (is.front ++ is.seat ∷ is.back) is.at

-- each instance of placed rows stands in one of them
pub stand-there : (d : Netlist) (rows : List (List Seat)) (instance : ℕ) → ArePlaced d rows → instance < length d.instances
    → (stand : Stand) × (stand_of d rows instance ≡ Some stand) × (stand.row < length rows)
stand-there d rows instance placed within = by (stand_of d rows instance) refl
  where
    by : (a : Option Stand) → stand_of d rows instance ≡ a → (stand : Stand) × (stand_of d rows instance ≡ Some stand) × (stand.row < length rows)
    by None none =
        let numbers = range_with_len 0 (length d.instances) in
        let all = All-permutation (λ (k : ℕ). k ≢ instance) (all_instances rows) numbers (IsPermutation-sym numbers (all_instances rows) placed.once)
        (All-from_recursion (λ (k : ℕ). k ≢ instance) (all_instances rows) (none-of-rows d 0 rows instance none)) in
        let count : length numbers ≡ length d.instances = length-range_with_len 0 (length d.instances) in
        absurd (all instance 0 (omega arith) (get_or-range_with_len 0 (length d.instances) instance 0 within ∙ omega arith))
    by (Some stand) here = (stand, here, stand-within d rows instance stand here)
