use Rattle.std.proofs.Common.{◌≡◌, ◌≢◌, ◌<◌, ◌≤◌, ◌⊎◌, inl, inr, ℕ, ◌+◌, List, Bool, true, false, cond, Option, None, Some, refl, length, ap, sym, ◌∙◌, arith, subst}
use Rattle.std.proofs.lemmas.Bool.Decides.{nat_tests}
use Rattle.std.specs.List.{slice_get}
use Rattle.std.specs.Option.{option_map}
use Rattle.std.specs.Prelude.{nat_eq, nat_le, not}
use Rattle.design_model.specs.Netlist.{IsNetlist, Netlist}
use Rattle.row_board.specs.Moving.{ArePut, AreUnmoved, IsIn, IsReach, in_order, moved_end, row_length}
use Rattle.row_board.specs.Spot.{Spot}
use Rattle.row_board.specs.Standings.{AreEntered, IsEntered, put_in, standing_of}
use Rattle.row_board.specs.declared.moving.MovedSeats.{MovedSeats}
use Rattle.row_model.specs.Changes.{mirrored, swapped}
use Rattle.row_model.specs.Rows.{ArePlaced}
use Rattle.row_model.specs.Widths.{columns_of}
use Rattle.row_model.specs.declared.rows.Seat.{Seat}
use Rattle.row_board.proofs.MoveLaws.{cell-told, end-ordered, end-within}
use Rattle.row_board.proofs.OutsideLaws.{outside}
use Rattle.row_board.proofs.PutLaws.{put-length}
use Rattle.row_model.proofs.PlacedLaws.{placed-distinct}
use Rattle.row_model.proofs.SwapLaws.{mirror-placed, mirrored-length, swapped-length}
use Rattle.row_board.proofs.TurnLaws.{outside-one, put-turns, turn-length}
use Rattle.std_laws.proofs.Tests.{inside-decided}

-- the reaches of two cells that exchanged their places
pub record AreReaches (d : Netlist) (rows new : List (List Seat)) (standings : List Spot) (a b : ℕ) (even : Bool) (first second : MovedSeats) : Type 0 where
  pub good : IsNetlist d
  pub placed : ArePlaced d rows
  pub entered : AreEntered d rows standings
  pub in_a : a < length d.instances
  pub in_b : b < length d.instances
  pub apart : a ≢ b
  pub one : Spot
  pub other : Spot
  pub is_one : one ≡ standing_of standings a
  pub is_other : other ≡ standing_of standings b
  pub alike : even ≡ true → columns_of d a ≡ columns_of d b
  pub row : first.row ≡ one.row
  pub from : first.from ≡ one.place
  pub to : first.to ≡ moved_end even (nat_eq one.row other.row) one.place other.place (row_length (slice_get rows one.row))
  pub row' : second.row ≡ other.row
  pub from' : second.from ≡ other.place
  pub to' : second.to ≡ moved_end even (nat_eq other.row one.row) other.place one.place (row_length (slice_get rows other.row))
  pub swap : new ≡ swapped a b rows
  pub puts : ArePut one.row one.place (record { instance = b; mirror = other.mirror }) other.row other.place (record { instance = a; mirror = one.mirror }) rows new

-- a row is as long after the puts as before
long-put : (rows new : List (List Seat)) (ra pa rb pb : ℕ) (a b : Seat) → ArePut ra pa b rb pb a rows new → (r : ℕ) → row_length (slice_get new r) ≡ row_length (slice_get rows r)
long-put rows new ra pa rb pb a b puts r = ap row_length (puts.each r) ∙ by (slice_get rows r)
  where
    by : (o : Option (List Seat)) → row_length (option_map (λ (l : List Seat). put_in rb pb a r (put_in ra pa b r l)) o) ≡ row_length o
    by None = refl
    by (Some l) = put-length rb pb a r (put_in ra pa b r l) ∙ put-length ra pa b r l

is-reach : (even : Bool) (rows new : List (List Seat)) (reach : MovedSeats) (ra pa rb pb : ℕ) → length new ≡ length rows → row_length (slice_get new reach.row) ≡ row_length (slice_get rows reach.row)
    → reach.row ≡ ra → reach.from ≡ pa → reach.to ≡ moved_end even (nat_eq ra rb) pa pb (row_length (slice_get rows ra))
    → ra < length rows → pa < row_length (slice_get rows ra) → pb < row_length (slice_get rows rb) → IsReach new reach
is-reach even rows new reach ra pa rb pb count long row from to low in_a in_b =
    let ordered = end-ordered even (nat_eq ra rb) pa pb (row_length (slice_get rows ra)) in_a in
    let within = end-within even (nat_eq ra rb) pa pb (row_length (slice_get rows ra)) in_a (λ same. same_row same) in
    let all : row_length (slice_get new reach.row) ≡ row_length (slice_get rows ra) = long ∙ ap (λ (n : ℕ). row_length (slice_get rows n)) row in
    record {
      row = omega (arith, count, row, low);
      ordered = omega (arith, ordered, from, to);
      within = omega (arith, within, to, all);
    }
  where
    same_row : nat_eq ra rb ≡ true → pb < row_length (slice_get rows ra)
    same_row test =
        let same : ra ≡ rb = grind (arith, nat_tests) in
        omega (arith, in_b, ap (λ (n : ℕ). row_length (slice_get rows n)) same)

pub record Unmoved (d : Netlist) (new : List (List Seat)) (standings : List Spot) (first second : MovedSeats) : Type 0 where
  pub is_first : IsReach new first
  pub is_second : IsReach new second
  pub each : (row place : ℕ) → (IsIn first row place → ⊥) → (IsIn second row place → ⊥) → IsEntered d new standings row place

pub unmoved : (d : Netlist) (rows new : List (List Seat)) (standings : List Spot) (a b : ℕ) (even : Bool) (first second : MovedSeats) → AreReaches d rows new standings a b even first second
    → Unmoved d new standings first second
unmoved d rows new standings a b even first second h =
    let cell_a = cell-told d rows standings a h.one h.good h.placed h.entered h.in_a h.is_one in
    let cell_b = cell-told d rows standings b h.other h.good h.placed h.entered h.in_b h.is_other in
    let count : length new ≡ length rows = ap length h.swap ∙ swapped-length rows a b in
    let long = long-put rows new h.one.row h.one.place h.other.row h.other.place (record { instance = a; mirror = h.one.mirror }) (record { instance = b; mirror = h.other.mirror }) h.puts in
    let low_a = end-ordered even (nat_eq h.one.row h.other.row) h.one.place h.other.place (row_length (slice_get rows h.one.row)) cell_a.within in
    let low_b = end-ordered even (nat_eq h.other.row h.one.row) h.other.place h.one.place (row_length (slice_get rows h.other.row)) cell_b.within in
    record {
      is_first = is-reach even rows new first h.one.row h.one.place h.other.row h.other.place count (long first.row) h.row h.from h.to cell_a.row cell_a.within cell_b.within;
      is_second = is-reach even rows new second h.other.row h.other.place h.one.row h.one.place count (long second.row) h.row' h.from' h.to' cell_b.row cell_b.within cell_a.within;
      each = λ r k off_a off_b.
          outside d rows new standings h.one.row h.one.place h.other.row h.other.place (record { instance = a; mirror = h.one.mirror }) (record { instance = b; mirror = h.other.mirror }) even
          first.to second.to h.entered cell_a.at cell_b.at h.apart h.puts h.alike h.to h.to' (omega (arith, low_a, h.to)) (omega (arith, low_b, h.to')) r k
          (λ x. off_a (x.0 ∙ sym h.row, omega (arith, x.1, h.from), x.2)) (λ x. off_b (x.0 ∙ sym h.row', omega (arith, x.1, h.from'), x.2));
    }

pub unmoved-ordered : (d : Netlist) (new : List (List Seat)) (standings : List Spot) (first second : MovedSeats) → Unmoved d new standings first second
    → AreUnmoved d new standings (in_order first second).0 (in_order first second).1
unmoved-ordered d new standings first second h = by (nat_le first.from second.from) refl
  where
    by : (b : Bool) → nat_le first.from second.from ≡ b → AreUnmoved d new standings (cond {A = MovedSeats × MovedSeats} b (first, second) (second, first)).0 (cond {A = MovedSeats × MovedSeats} b (first, second) (second, first)).1
    by true test = record { is_first = h.is_first; is_second = h.is_second; ordered = grind (arith, nat_tests); each = h.each }
    by false test = record { is_first = h.is_second; is_second = h.is_first; ordered = less first.from second.from test; each = λ r k off off_too. h.each r k off_too off }
      where
        less : (m n : ℕ) → nat_le m n ≡ false → n ≤ m
        less m n test = grind (arith, nat_tests)

-- two reaches entered one after the other
pub all-entered : (d : Netlist) (rows : List (List Seat)) (old now new : List Spot) (first second : MovedSeats) → AreUnmoved d rows old first second
    → ((k : ℕ) → first.from ≤ k → k < first.to → IsEntered d rows now first.row k) → ((r k : ℕ) → IsEntered d rows old r k → IsEntered d rows now r k)
    → ((k : ℕ) → second.from ≤ k → k < second.to → IsEntered d rows new second.row k) → ((r k : ℕ) → IsEntered d rows now r k → IsEntered d rows new r k)
    → AreEntered d rows new
all-entered d rows old now new first second unmoved one kept two kept_too = record {
  each = λ r k. by r k (inside-decided first.row first.from first.to r k) (inside-decided second.row second.from second.to r k);
}
  where
    by : (r k : ℕ) → IsIn first r k ⊎ (IsIn first r k → ⊥) → IsIn second r k ⊎ (IsIn second r k → ⊥) → IsEntered d rows new r k
    by r k (inl here) other = kept_too r k (subst (λ (n : ℕ). IsEntered d rows now n k) (sym here.0) (one k here.1 here.2))
    by r k (inr off) (inl here) = subst (λ (n : ℕ). IsEntered d rows new n k) (sym here.0) (two k here.1 here.2)
    by r k (inr off) (inr off_too) = kept_too r k (kept r k (unmoved.each r k off off_too))

-- what stands before the second of two reaches is entered once the first is
pub before-second : (d : Netlist) (rows : List (List Seat)) (old now : List Spot) (first second : MovedSeats) → AreUnmoved d rows old first second
    → ((k : ℕ) → first.from ≤ k → k < first.to → IsEntered d rows now first.row k) → ((r k : ℕ) → IsEntered d rows old r k → IsEntered d rows now r k)
    → (k : ℕ) → k + 1 ≡ second.from → IsEntered d rows now second.row k
before-second d rows old now first second unmoved one kept k is = by (inside-decided first.row first.from first.to second.row k)
  where
    by : IsIn first second.row k ⊎ (IsIn first second.row k → ⊥) → IsEntered d rows now second.row k
    by (inl here) = subst (λ (n : ℕ). IsEntered d rows now n k) (sym here.0) (one k here.1 here.2)
    by (inr off) = kept second.row k (unmoved.each second.row k off (λ h. omega (arith, h.1, is)))

-- what holds once the seat is turned over
pub record Turned (d : Netlist) (new : List (List Seat)) (old : List Spot) (is_mirrored : List (List Seat)) (st : Spot) : Type 0 where
  pub mirrored : new ≡ is_mirrored
  pub placed : ArePlaced d new
  pub row : st.row < length new
  pub within : st.place < row_length (slice_get new st.row)
  pub outside : (r k : ℕ) → ((r ≡ st.row) × (k ≡ st.place) → ⊥) → IsEntered d new old r k

pub turned-facts : (d : Netlist) (rows new : List (List Seat)) (old : List Spot) (a : ℕ) (st : Spot) → IsNetlist d → ArePlaced d rows → AreEntered d rows old → a < length d.instances
    → st ≡ standing_of old a → ((r : ℕ) → slice_get new r ≡ option_map (put_in st.row st.place (record { instance = a; mirror = not st.mirror }) r) (slice_get rows r))
    → Turned d new old (mirrored a rows) st
turned-facts d rows new old a st good placed entered in_a is put =
    let cell = cell-told d rows old a st good placed entered in_a is in
    let turns = put-turns d rows new st.row st.place (record { instance = a; mirror = st.mirror }) (placed-distinct d rows placed) cell.at put in
    record {
      mirrored = turns;
      placed = subst (ArePlaced d) (sym turns) (mirror-placed d rows a placed);
      row = omega (arith, cell.row, ap length turns, mirrored-length rows a);
      within = omega (arith, cell.within, turn-length rows new st.row st.place (record { instance = a; mirror = st.mirror }) put st.row);
      outside = outside-one d rows new old st.row st.place (record { instance = a; mirror = st.mirror }) entered cell.at put;
    }

pub turned-unmoved : (d : Netlist) (new : List (List Seat)) (old : List Spot) (is_mirrored : List (List Seat)) (st : Spot) (reach : MovedSeats) → Turned d new old is_mirrored st
    → reach.row ≡ st.row → reach.from ≡ st.place → reach.to ≡ st.place + 1 → AreUnmoved d new old reach reach
turned-unmoved d new old is_mirrored st reach facts row from to = record {
  is_first = is;
  is_second = is;
  ordered = omega arith;
  each = λ r k off off_too. facts.outside r k (λ h. off (h.0 ∙ sym row, omega (arith, h.1, from), omega (arith, h.1, to)));
}
  where
    is : IsReach new reach
    is =
        let same = ap (λ (n : ℕ). row_length (slice_get new n)) row in
        record { row = omega (arith, facts.row, row); ordered = omega (arith, from, to); within = omega (arith, facts.within, to, same) }
