use Rattle.std.proofs.Common.{◌≡◌, ◌≢◌, ◌<◌, ◌⊎◌, inl, inr, ℕ, ◌+◌, ◌-◌, ◌*◌, List, length, take, set, Bool, true, false, cond, Some, refl, ap, ap₂, sym, ◌∙◌, subst, arith}
use Rattle.std.proofs.lemmas.List.{length-set}
use Rattle.std.proofs.lemmas.Option.{same_Some, slice_get_within}
use Rattle.std.specs.List.{slice_get}
use Rattle.std.specs.Option.{option_map}
use Rattle.std.specs.Prelude.{nat_eq}
use Rattle.design_model.specs.Netlist.{IsNetlist, Netlist}
use Rattle.row_model.specs.Changes.{swapped}
use Rattle.row_board.specs.Moving.{ArePut, IsAt, row_length}
use Rattle.row_model.specs.Rows.{ArePlaced, AreRows}
use Rattle.row_board.specs.Standings.{AreEntered, in_place_of, put_in, standing_in, standing_of, traded}
use Rattle.row_model.specs.Stands.{stand_of}
use Rattle.row_board.specs.Trial.{instances_instead, instead, shift_end, shifted_seats}
use Rattle.row_model.specs.Widths.{columns_of, row_width}
use Rattle.row_model.specs.declared.rows.Seat.{Seat}
use Rattle.row_board.specs.Spot.{Spot}
use Rattle.row_board.proofs.HitLaws.{behind, hit-inside, hit-outside, hits, instead-first, instead-other, instead-second, IsBehind, IsOnlyAt, IsStill, not-behind, only-at}
use Rattle.row_board.proofs.MoveLaws.{cell-told, IsCell}
use Rattle.row_model.proofs.PlacedLaws.{placed-distinct}
use Rattle.row_board.proofs.PlaceLaws.{seat-stand, told}
use Rattle.row_board.proofs.PutLaws.{get-put-other, get-put-same, is_before, put-length, swap-puts, width-put}
use Rattle.row_model.proofs.SwapLaws.{swap-placed}
use Rattle.std_laws.proofs.Places.{get-set-other, get-set-same}
use Rattle.std_laws.proofs.Tests.{nat_eq-differ, nat_eq-equal}

-- two instances by a table of rows
pub record IsTrial (d : Netlist) (rows : List (List Seat)) (standings : List Spot) (a b : ℕ) : Type 0 where
  pub good : IsNetlist d
  pub placed : ArePlaced d rows
  pub entered : AreEntered d rows standings
  pub count : length standings ≡ length d.instances
  pub in_a : a < length d.instances
  pub in_b : b < length d.instances
  pub apart : a ≢ b

-- an instance stands in rows as a table tells, but that it is shifted to the right and to the left by so many columns
pub record IsShifted (d : Netlist) (new : List (List Seat)) (standings : List Spot) (i right left : ℕ) : Type 0 where
  pub standing : Spot
  pub told : slice_get standings i ≡ Some standing
  pub column : ℕ
  pub stand : stand_of d new i ≡ Some (record { row = standing.row; left = column; mirror = standing.mirror })
  pub shift : standing.left + right ≡ column + left

-- by how much an instance is shifted to the right by a swap, and to the left
abbrev pub first_hits : List (List Seat) → ℕ → ℕ → Spot → Spot → ℕ → ℕ
first_hits rows a b one other i = hits (instances_instead a b (shifted_seats rows one other)) i

abbrev pub right_by : Netlist → List (List Seat) → ℕ → ℕ → Spot → Spot → ℕ → ℕ
right_by d rows a b one other i =
    (columns_of d b - columns_of d a) * first_hits rows a b one other i + (columns_of d a - columns_of d b) * first_hits rows b a other one i

abbrev pub left_by : Netlist → List (List Seat) → ℕ → ℕ → Spot → Spot → ℕ → ℕ
left_by d rows a b one other i =
    (columns_of d a - columns_of d b) * first_hits rows a b one other i + (columns_of d b - columns_of d a) * first_hits rows b a other one i

times-one : (u n : ℕ) → n ≡ 1 → u * n ≡ u
times-one u n one = ap (λ (k : ℕ). u * k) one ∙ omega arith

times-none : (u n : ℕ) → n ≡ 0 → u * n ≡ 0
times-none u n none = ap (λ (k : ℕ). u * k) none ∙ omega arith

-- the width before a place, as two seats are put one after the other
swung : (w0 w1 w2 ca cb m n : ℕ) (x y : Bool) → w1 + cond x ca 0 ≡ w0 + cond x cb 0 → w2 + cond y cb 0 ≡ w1 + cond y ca 0
    → ((x ≡ true) × (y ≡ false) × (m ≡ 1) × (n ≡ 0)) ⊎ ((x ≡ false) × (y ≡ true) × (m ≡ 0) × (n ≡ 1)) ⊎ ((x ≡ y) × (m ≡ 0) × (n ≡ 0))
    → w0 + ((cb - ca) * m + (ca - cb) * n) ≡ w2 + ((ca - cb) * m + (cb - ca) * n)
swung w0 w1 w2 ca cb m n x y first last (inl h) =
    omega (
      arith,
      first,
      last,
      ap (λ (b : Bool). cond b ca 0) h.0,
      ap (λ (b : Bool). cond b cb 0) h.0,
      ap (λ (b : Bool). cond b ca 0) h.1,
      ap (λ (b : Bool). cond b cb 0) h.1,
      times-one (cb - ca) m h.2,
      times-one (ca - cb) m h.2,
      times-none (cb - ca) n h.3,
      times-none (ca - cb) n h.3,
    )
swung w0 w1 w2 ca cb m n x y first last (inr (inl h)) =
    omega (
      arith,
      first,
      last,
      ap (λ (b : Bool). cond b ca 0) h.0,
      ap (λ (b : Bool). cond b cb 0) h.0,
      ap (λ (b : Bool). cond b ca 0) h.1,
      ap (λ (b : Bool). cond b cb 0) h.1,
      times-none (cb - ca) m h.2,
      times-none (ca - cb) m h.2,
      times-one (cb - ca) n h.3,
      times-one (ca - cb) n h.3,
    )
swung w0 w1 w2 ca cb m n x y first last (inr (inr h)) =
    let flat = by x y h.0 first last in
    omega (arith, flat, times-none (cb - ca) m h.1, times-none (ca - cb) m h.1, times-none (cb - ca) n h.2, times-none (ca - cb) n h.2)
  where
    by : (x y : Bool) → x ≡ y → w1 + cond x ca 0 ≡ w0 + cond x cb 0 → w2 + cond y cb 0 ≡ w1 + cond y ca 0 → w0 ≡ w2
    by true true same first last = omega (arith, first, last)
    by false false same first last = omega (arith, first, last)
    by true false same first last = cc
    by false true same first last = cc

-- two seats of rows, the rows after they are exchanged, and tables of both
record Setting (d : Netlist) (rows new : List (List Seat)) (standings trial : List Spot) (a b : ℕ) (one other : Spot) : Type 0 where
  placed : ArePlaced d rows
  entered : AreEntered d rows standings
  apart : a ≢ b
  cell_a : IsCell rows a one
  cell_b : IsCell rows b other
  puts : ArePut one.row one.place (record { instance = b; mirror = other.mirror }) other.row other.place (record { instance = a; mirror = one.mirror }) rows new
  different : AreRows rows
  distinct : AreRows new
  told_a : slice_get trial a ≡ Some (in_place_of other one)
  told_b : slice_get trial b ≡ Some (in_place_of one other)
  kept : (i : ℕ) → i ≢ a → i ≢ b → slice_get trial i ≡ slice_get standings i
  left_a : one.left ≡ row_width d (take one.place cell_a.at.seats)
  left_b : other.left ≡ row_width d (take other.place cell_b.at.seats)

pub was : (rows : List (List Seat)) (r : ℕ) (seats : List Seat) → slice_get rows r ≡ Some seats → (x : Seat) (rx px : ℕ) → IsAt rows rx px x → r ≡ rx → slice_get seats px ≡ Some x
was rows r seats in_row x rx px is same =
    ap (λ (l : List Seat). slice_get l px) (same_Some seats is.seats (sym in_row ∙ ap (slice_get rows) same ∙ is.in_row)) ∙ is.at

-- two instances that differ stand at two places
places-apart : (rows : List (List Seat)) (ra pa rb pb : ℕ) (a b : Seat) → IsAt rows ra pa a → IsAt rows rb pb b → a.instance ≢ b.instance → (ra ≡ rb) × (pa ≡ pb) → ⊥
places-apart rows ra pa rb pb a b at_a at_b apart same =
    let row_same : at_a.seats ≡ at_b.seats = same_Some at_a.seats at_b.seats (sym at_a.in_row ∙ ap (slice_get rows) same.0 ∙ at_b.in_row) in
    let seat_same : a ≡ b = same_Some a b (sym at_a.at ∙ ap₂ slice_get row_same same.1 ∙ at_b.at) in
    apart (ap (λ (x : Seat). x.instance) seat_same)

pub second : (rows : List (List Seat)) (ra pa rb pb : ℕ) (a b : Seat) → IsAt rows ra pa a → IsAt rows rb pb b → a.instance ≢ b.instance
    → (r : ℕ) (seats : List Seat) → slice_get rows r ≡ Some seats → r ≡ rb → slice_get (put_in ra pa b r seats) pb ≡ Some b
second rows ra pa rb pb a b at_a at_b apart r seats in_row same =
    get-put-other ra pa b r pb seats (λ h. places-apart rows ra pa rb pb a b at_a at_b apart (sym h.0 ∙ same, sym h.1)) ∙ was rows r seats in_row b rb pb at_b same

-- the seats of a row after the exchange
abbrev after : ℕ → ℕ → Spot → Spot → ℕ → List Seat → List Seat
after a b one other r seats =
    put_in other.row other.place (record { instance = a; mirror = one.mirror }) r (put_in one.row one.place (record { instance = b; mirror = other.mirror }) r seats)

-- how far a place of the new rows is shifted from that of the old
place-shifted : (d : Netlist) (rows new : List (List Seat)) (standings trial : List Spot) (a b : ℕ) (one other : Spot) → Setting d rows new standings trial a b one other
    → (i r k : ℕ) (seats : List Seat) (s : Seat) → slice_get rows r ≡ Some seats → slice_get seats k ≡ Some s → instead a b s.instance ≡ i → instead b a s.instance ≡ i
    → row_width d (take k seats) + right_by d rows a b one other i ≡ row_width d (take k (after a b one other r seats)) + left_by d rows a b one other i
place-shifted d rows new standings trial a b one other h i r k seats s in_row at is is_too =
    swung (row_width d (take k seats)) (row_width d (take k (put_in one.row one.place (record { instance = b; mirror = other.mirror }) r seats))) (row_width d (take k (after a b one other r seats)))
    (columns_of d a) (columns_of d b) (first_hits rows a b one other i) (first_hits rows b a other one i) (is_before one.row one.place r k) (is_before other.row other.place r k)
    (width-put d one.row one.place (record { instance = b; mirror = other.mirror }) (record { instance = a; mirror = one.mirror }) r k seats
    (was rows r seats in_row (record { instance = a; mirror = one.mirror }) one.row one.place h.cell_a.at))
    (width-put d other.row other.place (record { instance = a; mirror = one.mirror }) (record { instance = b; mirror = other.mirror }) r k
    (put_in one.row one.place (record { instance = b; mirror = other.mirror }) r seats)
    (second rows one.row one.place other.row other.place (record { instance = a; mirror = one.mirror }) (record { instance = b; mirror = other.mirror }) h.cell_a.at h.cell_b.at h.apart r seats in_row))
    (by (behind one.row one.place other.row other.place r k (shift_end rows one other) (shift_end rows other one) (row_length (slice_get rows one.row)) (row_length (slice_get rows other.row)) refl refl
    (long one.row) (long other.row)))
  where
    first_only : IsOnlyAt rows (λ (t : Seat). instead a b t.instance) i r k
    first_only = only-at d rows h.different a b i r k seats s in_row at is

    second_only : IsOnlyAt rows (λ (t : Seat). instead b a t.instance) i r k
    second_only = only-at d rows h.different b a i r k seats s in_row at is_too

    long : (row : ℕ) → r ≡ row → k < row_length (slice_get rows row)
    long row same =
        let whole : row_length (slice_get rows row) ≡ length seats = ap (λ (n : ℕ). row_length (slice_get rows n)) (sym same) ∙ ap row_length in_row in
        omega (arith, whole, slice_get_within seats k s at)

    by : IsBehind one.row one.place other.row other.place (shift_end rows one other) r k ⊎ IsBehind other.row other.place one.row one.place (shift_end rows other one) r k
        ⊎ IsStill one.row one.place other.row other.place (shift_end rows one other) (shift_end rows other one) r k
        → ((is_before one.row one.place r k ≡ true) × (is_before other.row other.place r k ≡ false) × (first_hits rows a b one other i ≡ 1) × (first_hits rows b a other one i ≡ 0))
        ⊎ ((is_before one.row one.place r k ≡ false) × (is_before other.row other.place r k ≡ true) × (first_hits rows a b one other i ≡ 0) × (first_hits rows b a other one i ≡ 1))
        ⊎ ((is_before one.row one.place r k ≡ is_before other.row other.place r k) × (first_hits rows a b one other i ≡ 0) × (first_hits rows b a other one i ≡ 0))
    by (inl x) =
        inl (
          x.first,
          x.second,
          hit-inside rows (λ (t : Seat). instead a b t.instance) i r k one.row (one.place + 1) (shift_end rows one other) first_only x.row x.behind x.within,
          hit-outside rows (λ (t : Seat). instead b a t.instance) i r k other.row (other.place + 1) (shift_end rows other one) second_only
              (not-behind other.row other.place (shift_end rows other one) r k x.second),
        )
    by (inr (inl x)) =
        inr (inl (
          x.second,
          x.first,
          hit-outside rows (λ (t : Seat). instead a b t.instance) i r k one.row (one.place + 1) (shift_end rows one other) first_only
              (not-behind one.row one.place (shift_end rows one other) r k x.second),
          hit-inside rows (λ (t : Seat). instead b a t.instance) i r k other.row (other.place + 1) (shift_end rows other one) second_only x.row x.behind x.within,
        ))
    by (inr (inr x)) =
        inr (inr (
          x.same,
          hit-outside rows (λ (t : Seat). instead a b t.instance) i r k one.row (one.place + 1) (shift_end rows one other) first_only x.first,
          hit-outside rows (λ (t : Seat). instead b a t.instance) i r k other.row (other.place + 1) (shift_end rows other one) second_only x.second,
        ))

-- what stands at a place of the new rows, where a table has it by the old rows' widths
made : (d : Netlist) (rows new : List (List Seat)) (standings trial : List Spot) (a b : ℕ) (one other : Spot) → Setting d rows new standings trial a b one other
    → (r k : ℕ) (seats : List Seat) (s : Seat) (right left : ℕ) → slice_get rows r ≡ Some seats → slice_get (after a b one other r seats) k ≡ Some s
    → slice_get trial s.instance ≡ Some (record { row = r; mirror = s.mirror; place = k; left = row_width d (take k seats) })
    → row_width d (take k seats) + right ≡ row_width d (take k (after a b one other r seats)) + left → IsShifted d new trial s.instance right left
made d rows new standings trial a b one other h r k seats s right left in_row at told shift = record {
  standing = record { row = r; mirror = s.mirror; place = k; left = row_width d (take k seats) };
  told = told;
  column = row_width d (take k (after a b one other r seats));
  stand = seat-stand d new h.distinct r k (after a b one other r seats) s (h.puts.each r ∙ ap (option_map (after a b one other r)) in_row) at;
  shift = shift;
}

shifted-first : (d : Netlist) (rows new : List (List Seat)) (standings trial : List Spot) (a b : ℕ) (one other : Spot) → Setting d rows new standings trial a b one other
    → IsShifted d new trial a (right_by d rows a b one other a) (left_by d rows a b one other a)
shifted-first d rows new standings trial a b one other h =
    let seats = h.cell_b.at.seats in
    let long = put-length one.row one.place (record { instance = b; mirror = other.mirror }) other.row seats in
    made d rows new standings trial a b one other h other.row other.place seats (record { instance = a; mirror = one.mirror }) (right_by d rows a b one other a) (left_by d rows a b one other a)
    h.cell_b.at.in_row
    (get-put-same other.row other.place (record { instance = a; mirror = one.mirror }) (put_in one.row one.place (record { instance = b; mirror = other.mirror }) other.row seats)
    (omega (arith, long, slice_get_within seats other.place (record { instance = b; mirror = other.mirror }) h.cell_b.at.at)))
    (h.told_a ∙ ap (λ (n : ℕ). Some (record { row = other.row; mirror = one.mirror; place = other.place; left = n })) h.left_b)
    (place-shifted d rows new standings trial a b one other h a other.row other.place seats (record { instance = b; mirror = other.mirror }) h.cell_b.at.in_row h.cell_b.at.at (instead-second a b) (instead-first b a))

shifted-second : (d : Netlist) (rows new : List (List Seat)) (standings trial : List Spot) (a b : ℕ) (one other : Spot) → Setting d rows new standings trial a b one other
    → IsShifted d new trial b (right_by d rows a b one other b) (left_by d rows a b one other b)
shifted-second d rows new standings trial a b one other h =
    let seats = h.cell_a.at.seats in
    let long = put-length one.row one.place (record { instance = b; mirror = other.mirror }) other.row seats in
    made d rows new standings trial a b one other h one.row one.place seats (record { instance = b; mirror = other.mirror }) (right_by d rows a b one other b) (left_by d rows a b one other b)
    h.cell_a.at.in_row
    (get-put-other other.row other.place (record { instance = a; mirror = one.mirror }) one.row one.place (put_in one.row one.place (record { instance = b; mirror = other.mirror }) one.row seats)
    (places-apart rows one.row one.place other.row other.place (record { instance = a; mirror = one.mirror }) (record { instance = b; mirror = other.mirror }) h.cell_a.at h.cell_b.at h.apart)
    ∙ get-put-same one.row one.place (record { instance = b; mirror = other.mirror }) seats (slice_get_within seats one.place (record { instance = a; mirror = one.mirror }) h.cell_a.at.at))
    (h.told_b ∙ ap (λ (n : ℕ). Some (record { row = one.row; mirror = other.mirror; place = one.place; left = n })) h.left_a)
    (place-shifted d rows new standings trial a b one other h b one.row one.place seats (record { instance = a; mirror = one.mirror }) h.cell_a.at.in_row h.cell_a.at.at (instead-first a b) (instead-second b a))

shifted-other : (d : Netlist) (rows new : List (List Seat)) (standings trial : List Spot) (a b : ℕ) (one other : Spot) → Setting d rows new standings trial a b one other
    → (i : ℕ) → i ≢ a → i ≢ b → i < length d.instances → IsShifted d new trial i (right_by d rows a b one other i) (left_by d rows a b one other i)
shifted-other d rows new standings trial a b one other h i not_a not_b within =
    let t = told d rows standings i h.placed h.entered within in
    let s : Seat = record { instance = i; mirror = t.standing.mirror } in
    let here : IsAt rows t.standing.row t.standing.place s = record { seats = t.seats; in_row = t.in_row; at = t.at } in
    let off_a = places-apart rows t.standing.row t.standing.place one.row one.place s (record { instance = a; mirror = one.mirror }) here h.cell_a.at not_a in
    let off_b = places-apart rows t.standing.row t.standing.place other.row other.place s (record { instance = b; mirror = other.mirror }) here h.cell_b.at not_b in
    let at = get-put-other other.row other.place (record { instance = a; mirror = one.mirror }) t.standing.row t.standing.place
    (put_in one.row one.place (record { instance = b; mirror = other.mirror }) t.standing.row t.seats) off_b
    ∙ get-put-other one.row one.place (record { instance = b; mirror = other.mirror }) t.standing.row t.standing.place t.seats off_a ∙ t.at in
    made d rows new standings trial a b one other h t.standing.row t.standing.place t.seats s (right_by d rows a b one other i) (left_by d rows a b one other i) t.in_row at
    (h.kept i not_a not_b ∙ t.told ∙ ap (λ (n : ℕ). Some (record { row = t.standing.row; mirror = t.standing.mirror; place = t.standing.place; left = n })) t.left)
    (place-shifted d rows new standings trial a b one other h i t.standing.row t.standing.place t.seats s t.in_row t.at (instead-other a b i not_a not_b) (instead-other b a i not_b not_a))

-- where the table has two instances by the rows
left-told : (d : Netlist) (rows : List (List Seat)) (standings : List Spot) (a : ℕ) (mirror : Bool) → AreEntered d rows standings
    → (is : IsAt rows (standing_of standings a).row (standing_of standings a).place (record { instance = a; mirror = mirror }))
    → (standing_of standings a).left ≡ row_width d (take (standing_of standings a).place is.seats)
left-told d rows standings a mirror entered is =
    ap (λ (x : Spot). x.left)
    (ap standing_in (entered.each (standing_of standings a).row (standing_of standings a).place is.seats (record { instance = a; mirror = mirror }) is.in_row is.at))

setting : (d : Netlist) (rows : List (List Seat)) (standings : List Spot) (a b : ℕ) → IsTrial d rows standings a b
    → Setting d rows (swapped a b rows) standings (traded a b standings) a b (standing_of standings a) (standing_of standings b)
setting d rows standings a b h =
    let one = standing_of standings a in
    let other = standing_of standings b in
    let cell_a = cell-told d rows standings a one h.good h.placed h.entered h.in_a refl in
    let cell_b = cell-told d rows standings b other h.good h.placed h.entered h.in_b refl in
    record {
      placed = h.placed;
      entered = h.entered;
      apart = h.apart;
      cell_a = cell_a;
      cell_b = cell_b;
      puts = swap-puts rows one.row one.place other.row other.place (record { instance = a; mirror = one.mirror }) (record { instance = b; mirror = other.mirror }) (placed-distinct d rows h.placed) cell_a.at cell_b.at;
      different = placed-distinct d rows h.placed;
      distinct = placed-distinct d (swapped a b rows) (swap-placed d rows a b h.placed);
      told_a = get-set-other (set standings a (in_place_of other one)) b a (in_place_of one other) h.apart ∙ get-set-same standings a (in_place_of other one) (omega (arith, h.in_a, h.count));
      told_b = get-set-same (set standings a (in_place_of other one)) b (in_place_of one other) (omega (arith, h.in_b, h.count, length-set standings a (in_place_of other one)));
      kept = λ i not_a not_b. get-set-other (set standings a (in_place_of other one)) b i (in_place_of one other) not_b ∙ get-set-other standings a i (in_place_of other one) not_a;
      left_a = left-told d rows standings a one.mirror h.entered cell_a.at;
      left_b = left-told d rows standings b other.mirror h.entered cell_b.at;
    }

-- each instance stands in the rows after the swap as the table tells, but that those behind the two are shifted by the difference of the two widths
pub shifted : (d : Netlist) (rows : List (List Seat)) (standings : List Spot) (a b : ℕ) → IsTrial d rows standings a b → (i : ℕ) → i < length d.instances
    → IsShifted d (swapped a b rows) (traded a b standings) i (right_by d rows a b (standing_of standings a) (standing_of standings b) i)
    (left_by d rows a b (standing_of standings a) (standing_of standings b) i)
shifted d rows standings a b h i within = by (setting d rows standings a b h) (nat_eq i a) refl (nat_eq i b) refl
  where
    one : Spot
    one = standing_of standings a

    other : Spot
    other = standing_of standings b

    by : Setting d rows (swapped a b rows) standings (traded a b standings) a b one other → (x : Bool) → nat_eq i a ≡ x → (y : Bool) → nat_eq i b ≡ y
        → IsShifted d (swapped a b rows) (traded a b standings) i (right_by d rows a b one other i) (left_by d rows a b one other i)
    by s true first y last =
        subst (λ (j : ℕ). IsShifted d (swapped a b rows) (traded a b standings) j (right_by d rows a b one other j) (left_by d rows a b one other j)) (sym (nat_eq-equal i a first))
        (shifted-first d rows (swapped a b rows) standings (traded a b standings) a b one other s)
    by s false first true last =
        subst (λ (j : ℕ). IsShifted d (swapped a b rows) (traded a b standings) j (right_by d rows a b one other j) (left_by d rows a b one other j)) (sym (nat_eq-equal i b last))
        (shifted-second d rows (swapped a b rows) standings (traded a b standings) a b one other s)
    by s false first false last =
        shifted-other d rows (swapped a b rows) standings (traded a b standings) a b one other s i (nat_eq-differ i a first) (nat_eq-differ i b last) within
