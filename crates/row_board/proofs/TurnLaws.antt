use Rattle.std.proofs.Common.{◌≡◌, ◌≢◌, ◌<◌, ◌⊎◌, inl, inr, ℕ, List, [], ◌∷◌, length, map, sum, take, Bool, true, false, cond, Option, None, Some, refl, ap, ap₂, sym, ◌∙◌, arith}
use Rattle.std.proofs.lemmas.Bool.Decides.{nat_tests}
use Rattle.std.proofs.lemmas.Option.{none-some, same_Some, slice_get-map, slice_get_past, slice_get_within}
use Rattle.std.specs.List.{slice_get}
use Rattle.std.specs.Option.{option_map}
use Rattle.std.specs.Prelude.{nat_eq, not}
use Rattle.design_model.specs.Netlist.{Netlist}
use Rattle.row_model.specs.Changes.{mirrored, turned}
use Rattle.row_board.specs.Moving.{IsAt, row_length}
use Rattle.row_model.specs.Rows.{AreRows}
use Rattle.row_board.specs.Standings.{AreEntered, IsEntered, put_in, standing_at}
use Rattle.row_model.specs.Widths.{columns_of, row_width}
use Rattle.row_model.specs.declared.rows.Seat.{Seat}
use Rattle.row_board.specs.Spot.{Spot}
use Rattle.row_board.proofs.PlaceLaws.{one-place}
use Rattle.row_board.proofs.PutLaws.{get-put-other, get-put-same, put-length, width-put}
use Rattle.std_laws.proofs.Places.{list-same, get-none}
use Rattle.std_laws.proofs.Tests.{pair-decided}

-- a seat turned over
abbrev pub flipped : Seat → Seat
flipped s = record { instance = s.instance; mirror = not s.mirror }

turned-own : (a : ℕ) (s : Seat) → s.instance ≡ a → turned a s ≡ flipped s
turned-own a s is = by (nat_eq s.instance a) refl
  where
    by : (b : Bool) → nat_eq s.instance a ≡ b → cond b (flipped s) s ≡ flipped s
    by true test = refl
    by false test = absurd (no s.instance a is test)
      where
        no : (m n : ℕ) → m ≡ n → nat_eq m n ≡ false → ⊥
        no m n h test = grind (arith, nat_tests)

turned-other : (a : ℕ) (s : Seat) → s.instance ≢ a → turned a s ≡ s
turned-other a s off = by (nat_eq s.instance a) refl
  where
    equal : (m n : ℕ) → nat_eq m n ≡ true → m ≡ n
    equal m n test = grind (arith, nat_tests)

    by : (b : Bool) → nat_eq s.instance a ≡ b → cond b (flipped s) s ≡ s
    by true test = absurd (off (equal s.instance a test))
    by false test = refl

-- a seat that is turned over where it is
pub put-turns : (d : Netlist) (rows new : List (List Seat)) (ra pa : ℕ) (a : Seat) → AreRows rows → IsAt rows ra pa a
    → ((r : ℕ) → slice_get new r ≡ option_map (put_in ra pa (flipped a) r) (slice_get rows r)) → new ≡ mirrored a.instance rows
unfolding mirrored
put-turns d rows new ra pa a different at_a put = list-same new (map (map (turned a.instance)) rows) (λ r. by r (slice_get rows r) refl)
  where
    seat : (r k : ℕ) (seats : List Seat) (s : Seat) → slice_get rows r ≡ Some seats → slice_get seats k ≡ Some s → slice_get (put_in ra pa (flipped a) r seats) k ≡ Some (turned a.instance s)
    seat r k seats s in_row at = choose (pair-decided r ra k pa)
      where
        within : k < length seats
        within = slice_get_within seats k s at

        choose : ((r ≡ ra) × (k ≡ pa)) ⊎ ((r ≡ ra) × (k ≡ pa) → ⊥) → slice_get (put_in ra pa (flipped a) r seats) k ≡ Some (turned a.instance s)
        choose (inl here) =
            let row_same : seats ≡ at_a.seats = same_Some seats at_a.seats (sym in_row ∙ ap (slice_get rows) here.0 ∙ at_a.in_row) in
            let own : s ≡ a = same_Some s a (sym at ∙ ap₂ slice_get row_same here.1 ∙ at_a.at) in
            ap₂ (λ (n m : ℕ). slice_get (put_in ra pa (flipped a) n seats) m) here.0 here.1
            ∙ get-put-same ra pa (flipped a) seats (omega (arith, here.1, within))
            ∙ ap (λ (x : Seat). Some x) (sym (turned-own a.instance s (ap (λ (x : Seat). x.instance) own) ∙ ap flipped own))
        choose (inr off) =
            get-put-other ra pa (flipped a) r k seats off ∙ at
            ∙ ap (λ (x : Seat). Some x) (sym (turned-other a.instance s (λ same. off (one-place d rows different r ra k pa seats at_a.seats s a in_row at at_a.in_row at_a.at same))))

    row : (r : ℕ) (seats : List Seat) → slice_get rows r ≡ Some seats → put_in ra pa (flipped a) r seats ≡ map (turned a.instance) seats
    row r seats in_row = list-same (put_in ra pa (flipped a) r seats) (map (turned a.instance) seats) (λ k. place k (slice_get seats k) refl)
      where
        place : (k : ℕ) (o : Option Seat) → slice_get seats k ≡ o → slice_get (put_in ra pa (flipped a) r seats) k ≡ slice_get (map (turned a.instance) seats) k
        place k None at =
            let past = get-none seats k at in
            let long : length (put_in ra pa (flipped a) r seats) ≡ length seats = put-length ra pa (flipped a) r seats in
            slice_get_past (put_in ra pa (flipped a) r seats) k (omega (arith, long, past)) ∙ sym (slice_get-map (turned a.instance) seats k ∙ ap (option_map (turned a.instance)) at)
        place k (Some s) at = seat r k seats s in_row at ∙ sym (slice_get-map (turned a.instance) seats k ∙ ap (option_map (turned a.instance)) at)

    by : (r : ℕ) (o : Option (List Seat)) → slice_get rows r ≡ o → slice_get new r ≡ slice_get (map (map (turned a.instance)) rows) r
    by r None at =
        put r ∙ ap (option_map (put_in ra pa (flipped a) r)) at ∙ sym (slice_get-map (map (turned a.instance)) rows r ∙ ap (option_map (map (turned a.instance))) at)
    by r (Some seats) at =
        put r ∙ ap (option_map (put_in ra pa (flipped a) r)) at ∙ ap (λ (l : List Seat). Some l) (row r seats at)
        ∙ sym (slice_get-map (map (turned a.instance)) rows r ∙ ap (option_map (map (turned a.instance))) at)

-- each other seat is where the table tells that was right before
pub outside-one : (d : Netlist) (rows new : List (List Seat)) (standings : List Spot) (ra pa : ℕ) (a : Seat) → AreEntered d rows standings → IsAt rows ra pa a
    → ((r : ℕ) → slice_get new r ≡ option_map (put_in ra pa (flipped a) r) (slice_get rows r)) → (r k : ℕ) → ((r ≡ ra) × (k ≡ pa) → ⊥) → IsEntered d new standings r k
outside-one d rows new standings ra pa a entered at_a put r k off = λ seats2 s in_row2 at2. by seats2 s in_row2 at2 (slice_get rows r) refl
  where
    was : (seats : List Seat) → slice_get rows r ≡ Some seats → r ≡ ra → slice_get seats pa ≡ Some a
    was seats in_row same =
        ap (λ (l : List Seat). slice_get l pa) (same_Some seats at_a.seats (sym in_row ∙ ap (slice_get rows) same ∙ at_a.in_row)) ∙ at_a.at

    by : (seats2 : List Seat) (s : Seat) → slice_get new r ≡ Some seats2 → slice_get seats2 k ≡ Some s → (o : Option (List Seat)) → slice_get rows r ≡ o
        → slice_get standings s.instance ≡ Some (standing_at d r k seats2 s)
    by seats2 s in_row2 at2 None at = absurd (none-some seats2 (sym (put r ∙ ap (option_map (put_in ra pa (flipped a) r)) at) ∙ in_row2))
    by seats2 s in_row2 at2 (Some seats) at =
        let same_row : put_in ra pa (flipped a) r seats ≡ seats2 =
        same_Some (put_in ra pa (flipped a) r seats) seats2 (sym (put r ∙ ap (option_map (put_in ra pa (flipped a) r)) at) ∙ in_row2) in
        let same : slice_get (put_in ra pa (flipped a) r seats) k ≡ slice_get seats k = get-put-other ra pa (flipped a) r k seats off in
        let here : slice_get seats k ≡ Some s = sym same ∙ ap (λ (l : List Seat). slice_get l k) same_row ∙ at2 in
        let wide = width-put d ra pa (flipped a) a r k seats (was seats at) in
        let width : row_width d (take k (put_in ra pa (flipped a) r seats)) ≡ row_width d (take k seats) = omega (arith, wide) in
        entered.each r k seats s at here
        ∙ ap (λ (n : ℕ). Some (record { row = r; mirror = s.mirror; place = k; left = n })) (sym width ∙ ap (λ (l : List Seat). row_width d (take k l)) same_row)

-- a row is as long as before, and as wide
pub turn-length : (rows new : List (List Seat)) (ra pa : ℕ) (a : Seat) → ((r : ℕ) → slice_get new r ≡ option_map (put_in ra pa (flipped a) r) (slice_get rows r))
    → (r : ℕ) → row_length (slice_get new r) ≡ row_length (slice_get rows r)
turn-length rows new ra pa a put r = ap row_length (put r) ∙ by (slice_get rows r)
  where
    by : (o : Option (List Seat)) → row_length (option_map (put_in ra pa (flipped a) r) o) ≡ row_length o
    by None = refl
    by (Some l) = put-length ra pa (flipped a) r l

pub turned-width : (d : Netlist) (a : ℕ) (rows : List (List Seat)) → map (row_width d) (mirrored a rows) ≡ map (row_width d) rows
unfolding mirrored
turned-width d a [] = refl
turned-width d a (seats ∷ rows) = ap₂ (λ (n : ℕ) (ns : List ℕ). n ∷ ns) (ap sum (wide seats)) (turned-width d a rows)
  where
    one : (s : Seat) → columns_of d (turned a s).instance ≡ columns_of d s.instance
    one s = by (nat_eq s.instance a)
      where
        by : (b : Bool) → columns_of d (cond b (flipped s) s).instance ≡ columns_of d s.instance
        by true = refl
        by false = refl

    wide : (seats : List Seat) → map (λ (s : Seat). columns_of d s.instance) (map (turned a) seats) ≡ map (λ (s : Seat). columns_of d s.instance) seats
    wide [] = refl
    wide (s ∷ seats) = ap₂ (λ (n : ℕ) (ns : List ℕ). n ∷ ns) (one s) (wide seats)
