use Rattle.std.proofs.Common.{◌≡◌, ◌≢◌, ◌<◌, ◌≤◌, ℕ, ◌+◌, ◌-◌, List, length, map, set, Bool, true, false, cond, Option, None, Some, refl, ap, ap₂, sym, ◌∙◌, arith}
use Rattle.std.proofs.lemmas.Bool.Decides.{nat_tests}
use Rattle.std.proofs.lemmas.List.{length-set, take_all}
use Rattle.std.proofs.lemmas.Option.{none-some, same_Some, slice_get-map, slice_get_within}
use Rattle.std.specs.List.{slice_get}
use Rattle.std.specs.Option.{option_map}
use Rattle.std.specs.Prelude.{nat_eq}
use Rattle.design_model.specs.declared.design.Pin.{Pin}
use Rattle.design_model.specs.Netlist.{IsNetlist, Netlist}
use Rattle.row_board.specs.Board.{lengths_of, AreSeated}
use Rattle.row_board.specs.Cost.{target_of}
use Rattle.row_board.specs.Moving.{AreExchanged, ArePut, IsAt}
use Rattle.row_board.specs.RowLengths.{Lengths}
use Rattle.row_board.specs.Spot.{Spot}
use Rattle.row_model.specs.Changes.{mirrored, swapped}
use Rattle.row_model.specs.Rows.{ArePlaced}
use Rattle.row_board.specs.Standings.{put_in, standing_of}
use Rattle.row_model.specs.Widths.{columns_of, row_width}
use Rattle.row_model.specs.declared.rows.Seat.{Seat}
use Rattle.row_board.proofs.MoveLaws.{cell-told}
use Rattle.row_board.proofs.PlaceLaws.{row-short, width-few}
use Rattle.row_board.proofs.PutLaws.{get-put-other, width-set}
use Rattle.row_board.proofs.TurnLaws.{turned-width}
use Rattle.row_model.proofs.SwapLaws.{mirrored-length, swapped-length}
use Rattle.std_laws.proofs.Counts.{few-numbers}
use Rattle.std_laws.proofs.Places.{list-same}

-- the width of a row after a seat is put into it
pub width-whole : (d : Netlist) (row place : ℕ) (seat old : Seat) (number : ℕ) (seats : List Seat) → (number ≡ row → slice_get seats place ≡ Some old)
    → row_width d (put_in row place seat number seats) ≡ cond (nat_eq number row) (row_width d seats + columns_of d seat.instance - columns_of d old.instance) (row_width d seats)
width-whole d row place seat old number seats at = by (nat_eq number row) refl
  where
    by : (b : Bool) → nat_eq number row ≡ b
        → row_width d (cond b (set seats place seat) seats) ≡ cond b (row_width d seats + columns_of d seat.instance - columns_of d old.instance) (row_width d seats)
    by true test =
        let same : number ≡ row = grind (arith, nat_tests) in
        let within = slice_get_within seats place old (at same) in
        let wide = width-set d seats place (length seats) seat old (at same) within in
        let new = ap (row_width d) (take_all (length seats) (set seats place seat) (omega (arith, length-set seats place seat))) in
        let before = ap (row_width d) (take_all (length seats) seats (omega arith)) in
        omega (arith, wide, new, before)
    by false test = refl

-- the widths of rows after two seats are exchanged
pub lengths-put : (d : Netlist) (rows new : List (List Seat)) (ra pa rb pb : ℕ) (a b : Seat) (w0 w1 w2 : List ℕ) (ca cb : ℕ) → IsAt rows ra pa a → IsAt rows rb pb b → a.instance ≢ b.instance
    → ArePut ra pa b rb pb a rows new → ca ≡ columns_of d a.instance → cb ≡ columns_of d b.instance → w0 ≡ map (row_width d) rows
    → ((r : ℕ) → slice_get w1 r ≡ option_map (λ (w : ℕ). cond (nat_eq r ra) (w + cb - ca) w) (slice_get w0 r))
    → ((r : ℕ) → slice_get w2 r ≡ option_map (λ (w : ℕ). cond (nat_eq r rb) (w + ca - cb) w) (slice_get w1 r)) → w2 ≡ map (row_width d) new
lengths-put d rows new ra pa rb pb a b w0 w1 w2 ca cb at_a at_b apart puts is_a is_b old first second = list-same w2 (map (row_width d) new) (λ r. by r (slice_get rows r) refl)
  where
    was : (r : ℕ) (seats : List Seat) → slice_get rows r ≡ Some seats → (x : Seat) (rx px : ℕ) → IsAt rows rx px x → r ≡ rx → slice_get seats px ≡ Some x
    was r seats in_row x rx px is same =
        ap (λ (l : List Seat). slice_get l px) (same_Some seats is.seats (sym in_row ∙ ap (slice_get rows) same ∙ is.in_row)) ∙ is.at

    pair : (ra ≡ rb) × (pa ≡ pb) → a ≡ b
    pair same =
        let row_same : at_a.seats ≡ at_b.seats = same_Some at_a.seats at_b.seats (sym at_a.in_row ∙ ap (slice_get rows) same.0 ∙ at_b.in_row) in
        same_Some a b (sym at_a.at ∙ ap₂ slice_get row_same same.1 ∙ at_b.at)

    there : (r : ℕ) (seats : List Seat) → slice_get rows r ≡ Some seats → r ≡ rb → slice_get (put_in ra pa b r seats) pb ≡ Some b
    there r seats in_row same =
        get-put-other ra pa b r pb seats (λ h. apart (ap (λ (x : Seat). x.instance) (pair (sym h.0 ∙ same, sym h.1)))) ∙ was r seats in_row b rb pb at_b same

    by : (r : ℕ) (o : Option (List Seat)) → slice_get rows r ≡ o → slice_get w2 r ≡ slice_get (map (row_width d) new) r
    by r None at =
        second r ∙ ap (option_map (λ (w : ℕ). cond (nat_eq r rb) (w + ca - cb) w))
        (first r ∙ ap (option_map (λ (w : ℕ). cond (nat_eq r ra) (w + cb - ca) w)) (ap (λ (l : List ℕ). slice_get l r) old ∙ slice_get-map (row_width d) rows r ∙ ap (option_map (row_width d)) at))
        ∙ sym (slice_get-map (row_width d) new r ∙ ap (option_map (row_width d)) (puts.each r ∙ ap (option_map (λ (l : List Seat). put_in rb pb a r (put_in ra pa b r l))) at))
    by r (Some seats) at =
        let one : row_width d (put_in ra pa b r seats) ≡ cond (nat_eq r ra) (row_width d seats + cb - ca) (row_width d seats) =
        width-whole d ra pa b a r seats (was r seats at a ra pa at_a)
        ∙ ap₂ (λ (x y : ℕ). cond (nat_eq r ra) (row_width d seats + x - y) (row_width d seats)) (sym is_b) (sym is_a) in
        let two : row_width d (put_in rb pb a r (put_in ra pa b r seats)) ≡ cond (nat_eq r rb) (row_width d (put_in ra pa b r seats) + ca - cb) (row_width d (put_in ra pa b r seats)) =
        width-whole d rb pb a b r (put_in ra pa b r seats) (there r seats at)
        ∙ ap₂ (λ (x y : ℕ). cond (nat_eq r rb) (row_width d (put_in ra pa b r seats) + x - y) (row_width d (put_in ra pa b r seats))) (sym is_a) (sym is_b) in
        second r ∙ ap (option_map (λ (w : ℕ). cond (nat_eq r rb) (w + ca - cb) w))
        (first r ∙ ap (option_map (λ (w : ℕ). cond (nat_eq r ra) (w + cb - ca) w)) (ap (λ (l : List ℕ). slice_get l r) old ∙ slice_get-map (row_width d) rows r ∙ ap (option_map (row_width d)) at)
        ∙ ap (λ (n : ℕ). Some n) (sym one))
        ∙ ap (λ (n : ℕ). Some n) (sym two)
        ∙ sym (slice_get-map (row_width d) new r ∙ ap (option_map (row_width d)) (puts.each r ∙ ap (option_map (λ (l : List Seat). put_in rb pb a r (put_in ra pa b r l))) at))

-- rows of a design are not wide
pub lengths-few : (d : Netlist) (rows : List (List Seat)) (widths : List ℕ) → IsNetlist d → ArePlaced d rows → widths ≡ map (row_width d) rows
    → (r width : ℕ) → slice_get widths r ≡ Some width → width ≤ 2000000000000
lengths-few d rows widths good placed is r width at = by (slice_get rows r) refl
  where
    there : slice_get (map (row_width d) rows) r ≡ Some width
    there = ap (λ (l : List ℕ). slice_get l r) (sym is) ∙ at

    by : (o : Option (List Seat)) → slice_get rows r ≡ o → width ≤ 2000000000000
    by None none = absurd (none-some width (sym (slice_get-map (row_width d) rows r ∙ ap (option_map (row_width d)) none) ∙ there))
    by (Some seats) here =
        let same : row_width d seats ≡ width = same_Some (row_width d seats) width (sym (slice_get-map (row_width d) rows r ∙ ap (option_map (row_width d)) here) ∙ there) in
        omega (arith, same, width-few d good seats, row-short d rows good placed r seats here)

changed-few : (r row more fewer width : ℕ) (old : Option ℕ) → ((w : ℕ) → old ≡ Some w → w ≤ 2000000000000) → more ≤ 100000000
    → option_map (λ (w : ℕ). cond (nat_eq r row) (w + more - fewer) w) old ≡ Some width → width ≤ 2000100000000
changed-few r row more fewer width None few small is = absurd (none-some width is)
changed-few r row more fewer width (Some w) few small is = by (nat_eq r row) (few w refl) (same_Some _ _ is)
  where
    by : (b : Bool) → w ≤ 2000000000000 → cond b (w + more - fewer) w ≡ width → width ≤ 2000100000000
    by true low is = omega arith
    by false low is = omega arith

-- nor after one of them is changed
pub lengths-changed : (d : Netlist) (rows : List (List Seat)) (old new : List ℕ) (row more fewer : ℕ) → IsNetlist d → ArePlaced d rows → old ≡ map (row_width d) rows → more ≤ 100000000
    → ((r : ℕ) → slice_get new r ≡ option_map (λ (w : ℕ). cond (nat_eq r row) (w + more - fewer) w) (slice_get old r)) → (r width : ℕ) → slice_get new r ≡ Some width → width ≤ 2000100000000
lengths-changed d rows old new row more fewer good placed is small changed r width at =
    changed-few r row more fewer width (slice_get old r) (lengths-few d rows old good placed is r) small (sym (changed r) ∙ at)

-- the widths of rows and their target after a swap
pub lengths-swapped : (d : Netlist) (rows new : List (List Seat)) (standings : List Spot) (a b one other ca cb : ℕ) (l0 l1 l2 : Lengths) → IsNetlist d → AreSeated d rows standings → a ≢ b
    → a < length d.instances → b < length d.instances → new ≡ swapped a b rows → AreExchanged standings a b rows new
    → one ≡ (standing_of standings a).row → other ≡ (standing_of standings b).row → ca ≡ columns_of d a → cb ≡ columns_of d b → l0 ≡ lengths_of d rows
    → ((r : ℕ) → slice_get l1.widths r ≡ option_map (λ (w : ℕ). cond (nat_eq r one) (w + cb - ca) w) (slice_get l0.widths r)) → l1.target ≡ l0.target
    → ((r : ℕ) → slice_get l2.widths r ≡ option_map (λ (w : ℕ). cond (nat_eq r other) (w + ca - cb) w) (slice_get l1.widths r)) → l2.target ≡ l1.target → l2 ≡ lengths_of d new
lengths-swapped d rows new standings a b one other ca cb l0 l1 l2 good seated apart in_a in_b swap puts is_one is_other is_a is_b are first kept last kept_too =
    let st_a = standing_of standings a in
    let st_b = standing_of standings b in
    let cell_a = cell-told d rows standings a st_a good seated.placed seated.entered in_a refl in
    let cell_b = cell-told d rows standings b st_b good seated.placed seated.entered in_b refl in
    let widths = lengths-put d rows new st_a.row st_a.place st_b.row st_b.place (record { instance = a; mirror = st_a.mirror }) (record { instance = b; mirror = st_b.mirror }) l0.widths l1.widths l2.widths ca cb
    cell_a.at cell_b.at apart puts is_a is_b (ap (λ (l : Lengths). l.widths) are)
    (λ r. first r ∙ ap (λ (n : ℕ). option_map (λ (w : ℕ). cond (nat_eq r n) (w + cb - ca) w) (slice_get l0.widths r)) is_one)
    (λ r. last r ∙ ap (λ (n : ℕ). option_map (λ (w : ℕ). cond (nat_eq r n) (w + ca - cb) w) (slice_get l1.widths r)) is_other) in
    let count : length rows ≡ length new = sym (ap length swap ∙ swapped-length rows a b) in
    ap₂ (λ (ws : List ℕ) (t : ℕ). record { widths = ws; target = t }) widths (kept_too ∙ kept ∙ ap (λ (l : Lengths). l.target) are ∙ ap (target_of d) count)

-- and after a cell is turned over
pub lengths-mirrored : (d : Netlist) (a : ℕ) (rows new : List (List Seat)) → new ≡ mirrored a rows → lengths_of d rows ≡ lengths_of d new
lengths-mirrored d a rows new turned =
    ap₂ (λ (ws : List ℕ) (t : ℕ). record { widths = ws; target = t }) (sym (ap (map (row_width d)) turned ∙ turned-width d a rows))
    (ap (target_of d) (sym (ap length turned ∙ mirrored-length rows a)))

-- a design has no more nets than pins
pub few-nets : (d : Netlist) → IsNetlist d → length d.nets ≤ 200000
few-nets d good = omega (arith, few-numbers (λ (p : Pin). p.net) (length d.nets) d.pins good.used, good.few_pins)
