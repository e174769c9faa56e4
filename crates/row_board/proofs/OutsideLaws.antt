use Rattle.std.proofs.Common.{◌≡◌, ◌≢◌, ◌<◌, ◌≤◌, ℕ, ◌+◌, List, length, take, Bool, true, false, cond, ◌&&◌, Option, None, Some, refl, ap, ap₂, sym, ◌∙◌, arith}
use Rattle.std.proofs.lemmas.Bool.Decides.{nat_tests}
use Rattle.std.proofs.lemmas.Option.{none-some, same_Some, slice_get_within}
use Rattle.std.specs.List.{slice_get}
use Rattle.std.specs.Option.{option_map}
use Rattle.std.specs.Prelude.{max, nat_eq, nat_lt}
use Rattle.design_model.specs.Netlist.{Netlist}
use Rattle.row_board.specs.Moving.{ArePut, IsAt, moved_end, row_length, row_there}
use Rattle.row_board.specs.Standings.{AreEntered, IsEntered, put_in, standing_at}
use Rattle.row_model.specs.Widths.{columns_of, row_width}
use Rattle.row_model.specs.declared.rows.Seat.{Seat}
use Rattle.row_board.specs.Spot.{Spot}
use Rattle.row_board.proofs.PutLaws.{get-put-other, is_before, width-put}

-- behind a swapped seat and its reach, where the other is not before, the two are of one width
even-behind : (even : Bool) (ca cb r k ra pa rb pb count end : ℕ) → (even ≡ true → ca ≡ cb) → end ≡ moved_end even (nat_eq ra rb) pa pb count
    → ((r ≡ ra) × (pa ≤ k) × (k < end) → ⊥) → (r ≡ ra → k < count) → is_before ra pa r k ≡ true → is_before rb pb r k ≡ false → ca ≡ cb
even-behind true ca cb r k ra pa rb pb count end even is off within before other = even refl
even-behind false ca cb r k ra pa rb pb count end even is off within before other = by (nat_eq r ra) refl (nat_lt pa k) refl before (nat_eq ra rb) refl is
  where
    equal : (m n : ℕ) → nat_eq m n ≡ true → m ≡ n
    equal m n test = grind (arith, nat_tests)

    less : (m n : ℕ) → nat_lt m n ≡ true → m < n
    less m n test = grind (arith, nat_tests)

    contradict : (r rb pb k : ℕ) → r ≡ rb → pb < k → nat_eq r rb && nat_lt pb k ≡ false → ⊥
    contradict r rb pb k same low test = grind (arith, nat_tests)

    by : (x : Bool) → nat_eq r ra ≡ x → (y : Bool) → nat_lt pa k ≡ y → x && y ≡ true → (z : Bool) → nat_eq ra rb ≡ z → end ≡ cond z (max pa pb + 1) count → ca ≡ cb
    by false one y two both z three ends = cc
    by true one false two both z three ends = cc
    by true one true two both true three ends =
        let here = equal r ra one in
        let low = less pa k two in
        absurd (contradict r rb pb k (here ∙ equal ra rb three) (beyond (nat_lt k end) refl here low ends) other)
      where
        beyond : (b : Bool) → nat_lt k end ≡ b → r ≡ ra → pa < k → end ≡ max pa pb + 1 → pb < k
        beyond true test here low ends = absurd (off (here, omega arith, less k end test))
        beyond false test here low ends =
            let past : end ≤ k = grind (arith, nat_tests) in
            omega arith
    by true one true two both false three ends =
        let here = equal r ra one in
        let low = less pa k two in
        absurd (off (here, omega arith, omega (arith, within here, ends)))

-- a seat in no reach is where the table tells that was right before the swap
pub outside : (d : Netlist) (rows new : List (List Seat)) (standings : List Spot) (ra pa rb pb : ℕ) (a b : Seat) (even : Bool) (end_a end_b : ℕ)
    → AreEntered d rows standings → IsAt rows ra pa a → IsAt rows rb pb b → a.instance ≢ b.instance → ArePut ra pa b rb pb a rows new
    → (even ≡ true → columns_of d a.instance ≡ columns_of d b.instance)
    → end_a ≡ moved_end even (nat_eq ra rb) pa pb (row_length (slice_get rows ra)) → end_b ≡ moved_end even (nat_eq rb ra) pb pa (row_length (slice_get rows rb))
    → pa < end_a → pb < end_b
    → (r k : ℕ) → ((r ≡ ra) × (pa ≤ k) × (k < end_a) → ⊥) → ((r ≡ rb) × (pb ≤ k) × (k < end_b) → ⊥) → IsEntered d new standings r k
outside d rows new standings ra pa rb pb a b even end_a end_b entered at_a at_b apart puts alike is_a is_b low_a low_b r k off_a off_b = λ seats2 s in_row2 at2. by seats2 s in_row2 at2 (slice_get rows r) refl
  where
    was : (seats : List Seat) → slice_get rows r ≡ Some seats → (x : Seat) (rx px : ℕ) → IsAt rows rx px x → r ≡ rx → slice_get seats px ≡ Some x
    was seats in_row x rx px is same =
        ap (λ (l : List Seat). slice_get l px) (same_Some seats is.seats (sym in_row ∙ ap (slice_get rows) same ∙ is.in_row)) ∙ is.at

    pair : (ra ≡ rb) × (pa ≡ pb) → a ≡ b
    pair same =
        let row_same : at_a.seats ≡ at_b.seats = same_Some at_a.seats at_b.seats (sym at_a.in_row ∙ ap (slice_get rows) same.0 ∙ at_b.in_row) in
        same_Some a b (sym at_a.at ∙ ap₂ slice_get row_same same.1 ∙ at_b.at)

    second : (seats : List Seat) → slice_get rows r ≡ Some seats → r ≡ rb → slice_get (put_in ra pa b r seats) pb ≡ Some b
    second seats in_row same =
        get-put-other ra pa b r pb seats (λ h. apart (ap (λ (x : Seat). x.instance) (pair (sym h.0 ∙ same, sym h.1)))) ∙ was seats in_row b rb pb at_b same

    count : (seats : List Seat) → slice_get rows r ≡ Some seats → (rx : ℕ) → k < length seats → r ≡ rx → k < row_length (slice_get rows rx)
    count seats in_row rx within same =
        let long = ap (λ (o : Option (List Seat)). length (row_there o)) (sym in_row ∙ ap (slice_get rows) same) in
        omega (arith, within, long)

    width : (seats : List Seat) → slice_get rows r ≡ Some seats → k < length seats → (x y : Bool) → is_before ra pa r k ≡ x → is_before rb pb r k ≡ y
        → row_width d (take k (put_in ra pa b r seats)) + cond x (columns_of d a.instance) 0 ≡ row_width d (take k seats) + cond x (columns_of d b.instance) 0
        → row_width d (take k (put_in rb pb a r (put_in ra pa b r seats))) + cond y (columns_of d b.instance) 0 ≡ row_width d (take k (put_in ra pa b r seats)) + cond y (columns_of d a.instance) 0
        → row_width d (take k (put_in rb pb a r (put_in ra pa b r seats))) ≡ row_width d (take k seats)
    width seats in_row within true true one two first last = omega (arith, first, last)
    width seats in_row within false false one two first last = omega (arith, first, last)
    width seats in_row within true false one two first last =
        let same = even-behind even (columns_of d a.instance) (columns_of d b.instance) r k ra pa rb pb (row_length (slice_get rows ra)) end_a alike is_a off_a (count seats in_row ra within) one two in
        omega (arith, first, last, same)
    width seats in_row within false true one two first last =
        let same = even-behind even (columns_of d b.instance) (columns_of d a.instance) r k rb pb ra pa (row_length (slice_get rows rb)) end_b (λ e. sym (alike e)) is_b off_b (count seats in_row rb within) two one in
        omega (arith, first, last, same)

    by : (seats2 : List Seat) (s : Seat) → slice_get new r ≡ Some seats2 → slice_get seats2 k ≡ Some s → (o : Option (List Seat)) → slice_get rows r ≡ o
        → slice_get standings s.instance ≡ Some (standing_at d r k seats2 s)
    by seats2 s in_row2 at2 None at = absurd (none-some seats2 (sym (puts.each r ∙ ap (option_map (λ (l : List Seat). put_in rb pb a r (put_in ra pa b r l))) at) ∙ in_row2))
    by seats2 s in_row2 at2 (Some seats) at =
        let put : put_in rb pb a r (put_in ra pa b r seats) ≡ seats2 =
        same_Some (put_in rb pb a r (put_in ra pa b r seats)) seats2 (sym (puts.each r ∙ ap (option_map (λ (l : List Seat). put_in rb pb a r (put_in ra pa b r l))) at) ∙ in_row2) in
        let not_a : (r ≡ ra) × (k ≡ pa) → ⊥ = λ h. off_a (h.0, omega (arith, h.1), omega (arith, h.1, low_a)) in
        let not_b : (r ≡ rb) × (k ≡ pb) → ⊥ = λ h. off_b (h.0, omega (arith, h.1), omega (arith, h.1, low_b)) in
        let same : slice_get (put_in rb pb a r (put_in ra pa b r seats)) k ≡ slice_get seats k =
        get-put-other rb pb a r k (put_in ra pa b r seats) not_b ∙ get-put-other ra pa b r k seats not_a in
        let here : slice_get seats k ≡ Some s = sym same ∙ ap (λ (l : List Seat). slice_get l k) put ∙ at2 in
        let within : k < length seats = slice_get_within seats k s here in
        let wide = width seats at within (is_before ra pa r k) (is_before rb pb r k) refl refl
        (width-put d ra pa b a r k seats (was seats at a ra pa at_a)) (width-put d rb pb a b r k (put_in ra pa b r seats) (second seats at)) in
        entered.each r k seats s at here
        ∙ ap (λ (n : ℕ). Some (record { row = r; mirror = s.mirror; place = k; left = n })) (sym wide ∙ ap (λ (l : List Seat). row_width d (take k l)) put)
