use Rattle.std.proofs.Common.{◌≡◌, ◌≢◌, ◌<◌, ◌≤◌, ◌⊎◌, inl, inr, ℕ, zero, suc, ◌+◌, List, [], ◌∷◌, length, map, take, set, Bool, true, false, cond, ◌&&◌, Option, None, Some, refl, ap, ap₂, sym, ◌∙◌, subst, arith}
use Rattle.std.proofs.lemmas.Bool.Decides.{nat_tests}
use Rattle.std.proofs.lemmas.List.{length-set, take-set-le}
use Rattle.std.proofs.lemmas.Option.{none-some, same_Some, slice_get-map, slice_get_past, slice_get_within}
use Rattle.std.specs.List.{slice_get, Contains}
use Rattle.std.proofs.lemmas.List.Elements.{Contains-append_left, Contains-append_right}
use Rattle.std.specs.Option.{option_map}
use Rattle.std.specs.Prelude.{nat_eq, nat_lt}
use Rattle.design_model.specs.Netlist.{Netlist}
use Rattle.row_model.specs.Changes.{exchanged, seat_of, swapped, with_exchanged}
use Rattle.row_board.specs.Spot.{Spot}
use Rattle.row_board.specs.Moving.{ArePut, IsAt}
use Rattle.row_model.specs.Rows.{AreRows}
use Rattle.row_board.specs.Standings.{put_in}
use Rattle.row_model.specs.Widths.{columns_of, row_width}
use Rattle.row_model.specs.declared.rows.Seat.{Seat}
use Rattle.row_board.proofs.PlaceLaws.{one-place}
use Rattle.row_model.proofs.SwapLaws.{seat-found, seats_in}
use Rattle.row_model.proofs.TwiceLaws.{exchanged-first, exchanged-second, unique-seat}
use Rattle.row_model.proofs.WidthLaws.{width-cons}
use Rattle.std_laws.proofs.Members.{find-some, get-contains}
use Rattle.std_laws.proofs.Places.{get-set-other, get-set-same, get-none, list-same}
use Rattle.std_laws.proofs.Tests.{nat_eq-itself, pair-decided}

-- what stands at a place of a row after a seat is put somewhere
pub get-put-same : (row place : ℕ) (seat : Seat) (seats : List Seat) → place < length seats → slice_get (put_in row place seat row seats) place ≡ Some seat
get-put-same row place seat seats within =
    ap (λ (b : Bool). slice_get (cond b (set seats place seat) seats) place) (nat_eq-itself row) ∙ get-set-same seats place seat within

pub get-put-other : (row place : ℕ) (seat : Seat) (number k : ℕ) (seats : List Seat) → ((number ≡ row) × (k ≡ place) → ⊥) → slice_get (put_in row place seat number seats) k ≡ slice_get seats k
get-put-other row place seat number k seats other = by (nat_eq number row) refl
  where
    by : (b : Bool) → nat_eq number row ≡ b → slice_get (cond b (set seats place seat) seats) k ≡ slice_get seats k
    by true test = get-set-other seats place k seat (λ is. other (equal number row test, is))
      where
        equal : (m n : ℕ) → nat_eq m n ≡ true → m ≡ n
        equal m n test = grind (arith, nat_tests)
    by false test = refl

pub put-length : (row place : ℕ) (seat : Seat) (number : ℕ) (seats : List Seat) → length (put_in row place seat number seats) ≡ length seats
put-length row place seat number seats = by (nat_eq number row)
  where
    by : (b : Bool) → length (cond b (set seats place seat) seats) ≡ length seats
    by true = length-set seats place seat
    by false = refl

-- the width of the first k seats after a seat is put somewhere
pub width-set : (d : Netlist) (seats : List Seat) (place k : ℕ) (seat old : Seat) → slice_get seats place ≡ Some old → place < k
    → row_width d (take k (set seats place seat)) + columns_of d old.instance ≡ row_width d (take k seats) + columns_of d seat.instance
width-set d [] place k seat old at within = absurd (none-some old at)
width-set d (x ∷ xs) zero zero seat old at within = absurd (omega arith)
width-set d (x ∷ xs) zero (suc k) seat old at within =
    let same : x ≡ old = same_Some x old at in
    omega (arith, width-cons d x (take k xs), width-cons d seat (take k xs), ap (λ (s : Seat). columns_of d s.instance) same)
width-set d (x ∷ xs) (suc place) zero seat old at within = absurd (omega arith)
width-set d (x ∷ xs) (suc place) (suc k) seat old at within =
    let rest = width-set d xs place k seat old at (omega arith) in
    omega (arith, rest, width-cons d x (take k (set xs place seat)), width-cons d x (take k xs))

-- whether a seat of a row before place k is put
abbrev pub is_before : ℕ → ℕ → ℕ → ℕ → Bool
is_before row place number k = nat_eq number row && nat_lt place k

pub width-put : (d : Netlist) (row place : ℕ) (seat old : Seat) (number k : ℕ) (seats : List Seat) → (number ≡ row → slice_get seats place ≡ Some old)
    → row_width d (take k (put_in row place seat number seats)) + cond (is_before row place number k) (columns_of d old.instance) 0
    ≡ row_width d (take k seats) + cond (is_before row place number k) (columns_of d seat.instance) 0
width-put d row place seat old number k seats at = by (nat_eq number row) refl (nat_lt place k) refl
  where
    by : (b : Bool) → nat_eq number row ≡ b → (c : Bool) → nat_lt place k ≡ c
        → row_width d (take k (cond b (set seats place seat) seats)) + cond (b && c) (columns_of d old.instance) 0
        ≡ row_width d (take k seats) + cond (b && c) (columns_of d seat.instance) 0
    by true one true two =
        let same : number ≡ row = grind (arith, nat_tests) in
        let before : place < k = grind (arith, nat_tests) in
        width-set d seats place k seat old (at same) before
    by true one false two =
        let behind : k ≤ place = grind (arith, nat_tests) in
        ap (λ (l : List Seat). row_width d l + 0) (take-set-le k seats place seat behind)
    by false one c two = refl

neither : (a b s : Seat) → s.instance ≢ a.instance → s.instance ≢ b.instance → exchanged a b s ≡ s
neither a b s not_a not_b = by (nat_eq s.instance a.instance) refl (nat_eq s.instance b.instance) refl
  where
    equal : (m n : ℕ) → nat_eq m n ≡ true → m ≡ n
    equal m n test = grind (arith, nat_tests)

    by : (x : Bool) → nat_eq s.instance a.instance ≡ x → (y : Bool) → nat_eq s.instance b.instance ≡ y → cond x b (cond y a s) ≡ s
    by true one y two = absurd (not_a (equal s.instance a.instance one))
    by false one true two = absurd (not_b (equal s.instance b.instance two))
    by false one false two = refl

-- two seats that are put into each other's place are exchanged
pub puts-exchange : (d : Netlist) (rows rows1 rows2 : List (List Seat)) (ra pa rb pb : ℕ) (a b : Seat) → AreRows rows → IsAt rows ra pa a → IsAt rows rb pb b
    → ((r : ℕ) → slice_get rows1 r ≡ option_map (put_in ra pa b r) (slice_get rows r)) → ((r : ℕ) → slice_get rows2 r ≡ option_map (put_in rb pb a r) (slice_get rows1 r))
    → rows2 ≡ map (map (exchanged a b)) rows
puts-exchange d rows rows1 rows2 ra pa rb pb a b different at_a at_b first second = list-same rows2 (map (map (exchanged a b)) rows) (λ r. by r (slice_get rows r) refl)
  where
    seat : (r k : ℕ) (seats : List Seat) (s : Seat) → slice_get rows r ≡ Some seats → slice_get seats k ≡ Some s
        → slice_get (put_in rb pb a r (put_in ra pa b r seats)) k ≡ Some (exchanged a b s)
    seat r k seats s in_row at = choose (pair-decided r rb k pb) (pair-decided r ra k pa)
      where
        within : k < length seats
        within = slice_get_within seats k s at

        one : (x : Seat) (rx px : ℕ) → IsAt rows rx px x → s.instance ≡ x.instance → (r ≡ rx) × (k ≡ px)
        one x rx px is same = one-place d rows different r rx k px seats is.seats s x in_row at is.in_row is.at same

        found : (x : Seat) (rx px : ℕ) → IsAt rows rx px x → (r ≡ rx) × (k ≡ px) → s ≡ x
        found x rx px is here =
            let row_same : seats ≡ is.seats = same_Some seats is.seats (sym in_row ∙ ap (slice_get rows) here.0 ∙ is.in_row) in
            same_Some s x (sym at ∙ ap₂ slice_get row_same here.1 ∙ is.at)

        pair : a.instance ≡ b.instance → a ≡ b
        pair same =
            let places = one-place d rows different ra rb pa pb at_a.seats at_b.seats a b at_a.in_row at_a.at at_b.in_row at_b.at same in
            let row_same : at_a.seats ≡ at_b.seats = same_Some at_a.seats at_b.seats (sym at_a.in_row ∙ ap (slice_get rows) places.0 ∙ at_b.in_row) in
            same_Some a b (sym at_a.at ∙ ap₂ slice_get row_same places.1 ∙ at_b.at)

        choose : ((r ≡ rb) × (k ≡ pb)) ⊎ ((r ≡ rb) × (k ≡ pb) → ⊥) → ((r ≡ ra) × (k ≡ pa)) ⊎ ((r ≡ ra) × (k ≡ pa) → ⊥)
            → slice_get (put_in rb pb a r (put_in ra pa b r seats)) k ≡ Some (exchanged a b s)
        choose (inl here) there =
            let count : length (put_in ra pa b r seats) ≡ length seats = put-length ra pa b r seats in
            ap₂ (λ (n m : ℕ). slice_get (put_in rb pb a n (put_in ra pa b r seats)) m) here.0 here.1
            ∙ get-put-same rb pb a (put_in ra pa b r seats) (omega (arith, count, here.1, within))
            ∙ ap (λ (x : Seat). Some x) (sym (exchanged-second a b pair) ∙ sym (ap (exchanged a b) (found b rb pb at_b here)))
        choose (inr off) (inl here) =
            get-put-other rb pb a r k (put_in ra pa b r seats) off
            ∙ ap₂ (λ (n m : ℕ). slice_get (put_in ra pa b n seats) m) here.0 here.1
            ∙ get-put-same ra pa b seats (omega (arith, here.1, within))
            ∙ ap (λ (x : Seat). Some x) (sym (exchanged-first a b) ∙ sym (ap (exchanged a b) (found a ra pa at_a here)))
        choose (inr off) (inr off_a) =
            get-put-other rb pb a r k (put_in ra pa b r seats) off ∙ get-put-other ra pa b r k seats off_a ∙ at
            ∙ ap (λ (x : Seat). Some x) (sym (neither a b s (λ same. off_a (one a ra pa at_a same)) (λ same. off (one b rb pb at_b same))))

    row : (r : ℕ) (seats : List Seat) → slice_get rows r ≡ Some seats → put_in rb pb a r (put_in ra pa b r seats) ≡ map (exchanged a b) seats
    row r seats in_row = list-same (put_in rb pb a r (put_in ra pa b r seats)) (map (exchanged a b) seats) (λ k. place k (slice_get seats k) refl)
      where
        place : (k : ℕ) (o : Option Seat) → slice_get seats k ≡ o → slice_get (put_in rb pb a r (put_in ra pa b r seats)) k ≡ slice_get (map (exchanged a b) seats) k
        place k None at =
            let past = get-none seats k at in
            let long : length (put_in rb pb a r (put_in ra pa b r seats)) ≡ length seats = put-length rb pb a r (put_in ra pa b r seats) ∙ put-length ra pa b r seats in
            slice_get_past (put_in rb pb a r (put_in ra pa b r seats)) k (omega (arith, long, past))
            ∙ sym (slice_get-map (exchanged a b) seats k ∙ ap (option_map (exchanged a b)) at)
        place k (Some s) at = seat r k seats s in_row at ∙ sym (slice_get-map (exchanged a b) seats k ∙ ap (option_map (exchanged a b)) at)

    by : (r : ℕ) (o : Option (List Seat)) → slice_get rows r ≡ o → slice_get rows2 r ≡ slice_get (map (map (exchanged a b)) rows) r
    by r None at =
        second r ∙ ap (option_map (put_in rb pb a r)) (first r ∙ ap (option_map (put_in ra pa b r)) at)
        ∙ sym (slice_get-map (map (exchanged a b)) rows r ∙ ap (option_map (map (exchanged a b))) at)
    by r (Some seats) at =
        second r ∙ ap (option_map (put_in rb pb a r)) (first r ∙ ap (option_map (put_in ra pa b r)) at)
        ∙ ap (λ (l : List Seat). Some l) (row r seats at)
        ∙ sym (slice_get-map (map (exchanged a b)) rows r ∙ ap (option_map (map (exchanged a b))) at)

-- a seat that is there is one of all seats
at-listed : (rows : List (List Seat)) (row place : ℕ) (s : Seat) → IsAt rows row place s → Contains (seats_in rows) s
at-listed rows row place s is = listed rows row place is.seats s is.in_row is.at
  where
    listed : (rows : List (List Seat)) (row place : ℕ) (seats : List Seat) (s : Seat) → slice_get rows row ≡ Some seats → slice_get seats place ≡ Some s → Contains (seats_in rows) s
    listed [] row place seats s in_row at = absurd (none-some seats in_row)
    listed (x ∷ xs) zero place seats s in_row at =
        Contains-append_left x (seats_in xs) s (get-contains x place s (ap (λ (l : List Seat). slice_get l place) (same_Some x seats in_row) ∙ at))
    listed (x ∷ xs) (suc row) place seats s in_row at = Contains-append_right x (seats_in xs) s (listed xs row place seats s in_row at)

-- an instance's seat is the one that is there
pub seat-there : (rows : List (List Seat)) (row place : ℕ) (s : Seat) → AreRows rows → IsAt rows row place s → seat_of rows s.instance ≡ Some s
seat-there rows row place s different is =
    let has = at-listed rows row place s is in
    let some = find-some (λ (x : Seat). nat_eq x.instance s.instance) (seats_in rows) s has (nat_eq-itself s.instance) in
    let found = seat-found rows s.instance some.0 some.1 in
    some.1 ∙ ap (λ (x : Seat). Some x) (unique-seat rows some.0 s different found.1 has found.0)

-- some design, since no width counts where seats exchange places
none : Netlist
none = record { kinds = []; height = 0; instances = []; pins = []; nets = [] }

pub puts-swap : (rows rows1 rows2 : List (List Seat)) (ra pa rb pb : ℕ) (a b : Seat) → AreRows rows → IsAt rows ra pa a → IsAt rows rb pb b
    → ((r : ℕ) → slice_get rows1 r ≡ option_map (put_in ra pa b r) (slice_get rows r)) → ((r : ℕ) → slice_get rows2 r ≡ option_map (put_in rb pb a r) (slice_get rows1 r))
    → rows2 ≡ swapped a.instance b.instance rows
unfolding swapped
puts-swap rows rows1 rows2 ra pa rb pb a b different at_a at_b first second =
    puts-exchange none rows rows1 rows2 ra pa rb pb a b different at_a at_b first second
    ∙ sym (ap₂ (λ (o p : Option Seat). with_exchanged o p rows) (seat-there rows ra pa a different at_a) (seat-there rows rb pb b different at_b))

-- a list with each item changed by its number
abbrev numbered : {X : Type 0} → (ℕ → X → X) → List X → List X
numbered f [] = []
numbered {X} f (x ∷ xs) = f 0 x ∷ numbered (λ (n : ℕ). f (suc n)) xs

numbered-at : {X : Type 0} (f : ℕ → X → X) (xs : List X) (r : ℕ) → slice_get (numbered f xs) r ≡ option_map (f r) (slice_get xs r)
numbered-at f [] r = refl
numbered-at f (x ∷ xs) zero = refl
numbered-at {X} f (x ∷ xs) (suc r) = numbered-at (λ (n : ℕ). f (suc n)) xs r

twice : (f g : List Seat → List Seat) (o : Option (List Seat)) → option_map g (option_map f o) ≡ option_map (λ (l : List Seat). g (f l)) o
twice f g None = refl
twice f g (Some l) = refl

pub puts-are : (rows rows1 rows2 : List (List Seat)) (ra pa rb pb : ℕ) (a b : Seat) → ((r : ℕ) → slice_get rows1 r ≡ option_map (put_in ra pa b r) (slice_get rows r))
    → ((r : ℕ) → slice_get rows2 r ≡ option_map (put_in rb pb a r) (slice_get rows1 r)) → ArePut ra pa b rb pb a rows rows2
puts-are rows rows1 rows2 ra pa rb pb a b first second = record {
  each = λ r. second r ∙ ap (option_map (put_in rb pb a r)) (first r) ∙ twice (put_in ra pa b r) (put_in rb pb a r) (slice_get rows r);
}

-- the seats of two instances that stand there are exchanged one after the other
pub seats-exchanged : (rows once new : List (List Seat)) (one other : Spot) (a b : ℕ) (s t : Seat) → AreRows rows
    → IsAt rows one.row one.place (record { instance = a; mirror = one.mirror }) → IsAt rows other.row other.place (record { instance = b; mirror = other.mirror })
    → s ≡ record { instance = b; mirror = other.mirror } → ((r : ℕ) → slice_get once r ≡ option_map (put_in one.row one.place s r) (slice_get rows r))
    → t ≡ record { instance = a; mirror = one.mirror } → ((r : ℕ) → slice_get new r ≡ option_map (put_in other.row other.place t r) (slice_get once r))
    → (new ≡ swapped a b rows) × ArePut one.row one.place (record { instance = b; mirror = other.mirror }) other.row other.place (record { instance = a; mirror = one.mirror }) rows new
seats-exchanged rows once new one other a b s t different at_a at_b is_s first is_t second = (
  puts-swap rows once new one.row one.place other.row other.place (record { instance = a; mirror = one.mirror }) (record { instance = b; mirror = other.mirror }) different at_a at_b put_b put_a,
  puts-are rows once new one.row one.place other.row other.place (record { instance = a; mirror = one.mirror }) (record { instance = b; mirror = other.mirror }) put_b put_a,
)
  where
    put_b : (r : ℕ) → slice_get once r ≡ option_map (put_in one.row one.place (record { instance = b; mirror = other.mirror }) r) (slice_get rows r)
    put_b r = first r ∙ ap (λ (s : Seat). option_map (put_in one.row one.place s r) (slice_get rows r)) is_s

    put_a : (r : ℕ) → slice_get new r ≡ option_map (put_in other.row other.place (record { instance = a; mirror = one.mirror }) r) (slice_get once r)
    put_a r = second r ∙ ap (λ (s : Seat). option_map (put_in other.row other.place s r) (slice_get once r)) is_t

-- where two instances stand in rows, the rows after their swap have each other's seats there
pub swap-puts : (rows : List (List Seat)) (ra pa rb pb : ℕ) (a b : Seat) → AreRows rows → IsAt rows ra pa a → IsAt rows rb pb b
    → ArePut ra pa b rb pb a rows (swapped a.instance b.instance rows)
swap-puts rows ra pa rb pb a b different at_a at_b =
    subst (ArePut ra pa b rb pb a rows)
    (puts-swap rows (numbered (put_in ra pa b) rows) (numbered (put_in rb pb a) (numbered (put_in ra pa b) rows)) ra pa rb pb a b different at_a at_b
    (λ r. numbered-at (put_in ra pa b) rows r) (λ r. numbered-at (put_in rb pb a) (numbered (put_in ra pa b) rows) r))
    (puts-are rows (numbered (put_in ra pa b) rows) (numbered (put_in rb pb a) (numbered (put_in ra pa b) rows)) ra pa rb pb a b (λ r. numbered-at (put_in ra pa b) rows r)
    (λ r. numbered-at (put_in rb pb a) (numbered (put_in ra pa b) rows) r))
