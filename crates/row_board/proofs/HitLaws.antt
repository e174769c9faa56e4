use Rattle.std.proofs.Common.{◌≡◌, ◌≢◌, ◌⊎◌, inl, inr, ◌<◌, ◌≤◌, ℕ, zero, suc, ◌+◌, ◌-◌, List, [], ◌∷◌, map, take, drop, sum, Bool, true, false, cond, ◌&&◌, Option, None, Some, refl, ap, ap₂, sym, ◌∙◌, arith}
use Rattle.std.proofs.lemmas.Bool.Decides.{nat_tests}
use Rattle.std.proofs.lemmas.Option.{none-some, same_Some}
use Rattle.std.specs.List.{slice_get}
use Rattle.std.specs.Prelude.{max, nat_eq, nat_lt}
use Rattle.row_board.specs.Moving.{moved_end, row_there}
use Rattle.row_board.specs.Trial.{instead, seats_between}
use Rattle.row_model.specs.declared.rows.Seat.{Seat}
use Rattle.design_model.specs.Netlist.{Netlist}
use Rattle.row_model.specs.Rows.{AreRows}
use Rattle.row_board.proofs.PlaceLaws.{one-place}
use Rattle.row_board.proofs.PutLaws.{is_before}
use Rattle.std_laws.proofs.Places.{get-dropped, map-at, map-get}
use Rattle.std_laws.proofs.Sums.{sum-cons}
use Rattle.std_laws.proofs.Tests.{nat_eq-differ, nat_eq-equal, nat_eq-false, nat_eq-itself, nat_eq-true}

-- how many of some numbers are this one
abbrev pub hits : List ℕ → ℕ → ℕ
hits ns i = sum (map (λ (n : ℕ). cond (nat_eq i n) 1 0) ns)

pub hits-cons : (n : ℕ) (ns : List ℕ) (i : ℕ) → hits (n ∷ ns) i ≡ cond (nat_eq i n) 1 0 + hits ns i
hits-cons n ns i = sum-cons (cond (nat_eq i n) 1 0) (map (λ (n : ℕ). cond (nat_eq i n) 1 0) ns)

hits-none : (ns : List ℕ) (i : ℕ) → ((k : ℕ) → slice_get ns k ≡ Some i → ⊥) → hits ns i ≡ 0
hits-none [] i none = refl
hits-none (n ∷ ns) i none =
    let off : cond (nat_eq i n) 1 0 ≡ zero = ap (λ (b : Bool). cond b (suc zero) 0) (nat_eq-false i n (λ same. none 0 (ap (λ (m : ℕ). Some m) (sym same)))) in
    omega (arith, off, hits-none ns i (λ k at. none (suc k) at), hits-cons n ns i)

hits-one : (ns : List ℕ) (i k : ℕ) → slice_get ns k ≡ Some i → ((j : ℕ) → slice_get ns j ≡ Some i → j ≡ k) → hits ns i ≡ 1
hits-one [] i k at only = absurd (none-some i at)
hits-one (n ∷ ns) i zero at only =
    let here : cond (nat_eq i n) 1 0 ≡ suc zero = ap (λ (b : Bool). cond b (suc zero) 0) (nat_eq-true i n (sym (same_Some n i at))) in
    omega (arith, here, hits-none ns i (λ j is. let no = only (suc j) is in omega (arith, no)), hits-cons n ns i)
hits-one (n ∷ ns) i (suc k) at only =
    let off : cond (nat_eq i n) 1 0 ≡ zero = ap (λ (b : Bool). cond b (suc zero) 0) (nat_eq-false i n (λ same. let no = only 0 (ap (λ (m : ℕ). Some m) (sym same)) in omega (arith, no))) in
    omega (arith, off, hits-one ns i k at (λ j is. let next = only (suc j) is in omega (arith, next)), hits-cons n ns i)

-- what stands in a front
pub taken-within : {X : Type 0} (m j : ℕ) (xs : List X) (x : X) → slice_get (take m xs) j ≡ Some x → (j < m) × (slice_get xs j ≡ Some x)
taken-within zero j xs x at = absurd (none-some x at)
taken-within (suc m) j [] x at = absurd (none-some x at)
taken-within (suc m) zero (y ∷ xs) x at = (omega arith, at)
taken-within (suc m) (suc j) (y ∷ xs) x at = let rest = taken-within m j xs x at in (omega (arith, rest.0), rest.1)

taken-there : {X : Type 0} (m j : ℕ) (xs : List X) (x : X) → j < m → slice_get xs j ≡ Some x → slice_get (take m xs) j ≡ Some x
taken-there zero j xs x low at = absurd (omega (arith, low))
taken-there (suc m) j [] x low at = absurd (none-some x at)
taken-there (suc m) zero (y ∷ xs) x low at = at
taken-there (suc m) (suc j) (y ∷ xs) x low at = taken-there m j xs x (omega (arith, low)) at

-- a seat between two places stands in the row
between-within : (f : Seat → ℕ) (from to i j : ℕ) (seats : List Seat) → slice_get (map f (seats_between from to seats)) j ≡ Some i
    → (t : Seat) × (from + j < to) × (slice_get seats (from + j) ≡ Some t) × (f t ≡ i)
between-within f from to i j seats at =
    let found = map-get f (seats_between from to seats) j i at in
    let within = taken-within (to - from) j (drop from seats) found.0 found.1 in
    (found.0, omega (arith, within.0), sym (get-dropped seats from j) ∙ within.1, found.2)

between-there : (f : Seat → ℕ) (from to k : ℕ) (seats : List Seat) (t : Seat) → slice_get seats k ≡ Some t → from ≤ k → k < to
    → slice_get (map f (seats_between from to seats)) (k - from) ≡ Some (f t)
between-there f from to k seats t at low high =
    let same : from + (k - from) ≡ k = omega (arith, low) in
    map-at f (seats_between from to seats) (k - from) t
    (taken-there (to - from) (k - from) (drop from seats) t (omega (arith, low, high)) (get-dropped seats from (k - from) ∙ ap (slice_get seats) same ∙ at))

-- an instance that stands only at one place of rows, once others took the places of some
pub record IsOnlyAt (rows : List (List Seat)) (f : Seat → ℕ) (i r k : ℕ) : Type 0 where
  pub seats : List Seat
  pub seat : Seat
  pub in_row : slice_get rows r ≡ Some seats
  pub at : slice_get seats k ≡ Some seat
  pub is : f seat ≡ i
  pub only : (r' k' : ℕ) (seats' : List Seat) (t : Seat) → slice_get rows r' ≡ Some seats' → slice_get seats' k' ≡ Some t → f t ≡ i → (r' ≡ r) × (k' ≡ k)

only-there : (rows : List (List Seat)) (f : Seat → ℕ) (i r k : ℕ) → IsOnlyAt rows f i r k → (r' k' : ℕ) (t : Seat) → slice_get (row_there (slice_get rows r')) k' ≡ Some t → f t ≡ i
    → (r' ≡ r) × (k' ≡ k)
only-there rows f i r k h r' k' t at is = by (slice_get rows r') refl at
  where
    by : (o : Option (List Seat)) → slice_get rows r' ≡ o → slice_get (row_there o) k' ≡ Some t → (r' ≡ r) × (k' ≡ k)
    by None none at = absurd (none-some t at)
    by (Some seats) here at = h.only r' k' seats t here at is

-- it is hit once where it stands between two places of a row, and else not
pub hit-inside : (rows : List (List Seat)) (f : Seat → ℕ) (i r k row from to : ℕ) → IsOnlyAt rows f i r k → r ≡ row → from ≤ k → k < to
    → hits (map f (seats_between from to (row_there (slice_get rows row)))) i ≡ 1
hit-inside rows f i r k row from to h same low high =
    let there : slice_get (row_there (slice_get rows row)) k ≡ Some h.seat =
    ap (λ (n : ℕ). slice_get (row_there (slice_get rows n)) k) (sym same) ∙ ap (λ (o : Option (List Seat)). slice_get (row_there o) k) h.in_row ∙ h.at in
    hits-one (map f (seats_between from to (row_there (slice_get rows row)))) i (k - from)
    (between-there f from to k (row_there (slice_get rows row)) h.seat there low high ∙ ap (λ (n : ℕ). Some n) h.is)
    (λ j at.
    let found = between-within f from to i j (row_there (slice_get rows row)) at in
    let place = only-there rows f i r k h row (from + j) found.0 found.2 found.3 in
    omega (arith, place.1, low))

pub hit-outside : (rows : List (List Seat)) (f : Seat → ℕ) (i r k row from to : ℕ) → IsOnlyAt rows f i r k → ((r ≡ row) × (from ≤ k) × (k < to) → ⊥)
    → hits (map f (seats_between from to (row_there (slice_get rows row)))) i ≡ 0
hit-outside rows f i r k row from to h outside =
    hits-none (map f (seats_between from to (row_there (slice_get rows row)))) i
    (λ j at.
    let found = between-within f from to i j (row_there (slice_get rows row)) at in
    let place = only-there rows f i r k h row (from + j) found.0 found.2 found.3 in
    outside (sym place.0, omega (arith, place.1), omega (arith, place.1, found.1)))

-- two exchanges give back what was
instead-twice : (a b n : ℕ) → instead a b (instead a b n) ≡ n
instead-twice a b n = by (nat_eq n a) refl (nat_eq n b) refl
  where
    back : (m : Bool) → nat_eq b a ≡ m → n ≡ a → cond m b (cond (nat_eq b b) a b) ≡ n
    back true same is = nat_eq-equal b a same ∙ sym is
    back false other is = ap (λ (x : Bool). cond x a b) (nat_eq-itself b) ∙ sym is

    by : (x : Bool) → nat_eq n a ≡ x → (y : Bool) → nat_eq n b ≡ y → instead a b (cond x b (cond y a n)) ≡ n
    by true first y second = back (nat_eq b a) refl (nat_eq-equal n a first)
    by false first true second = ap (λ (x : Bool). cond x b (cond (nat_eq a b) a a)) (nat_eq-itself a) ∙ sym (nat_eq-equal n b second)
    by false first false second = ap₂ (λ (x y : Bool). cond x b (cond y a n)) first second

pub instead-apart : (a b m n : ℕ) → instead a b m ≡ instead a b n → m ≡ n
instead-apart a b m n same = sym (instead-twice a b m) ∙ ap (instead a b) same ∙ instead-twice a b n

pub instead-first : (a b : ℕ) → instead a b a ≡ b
instead-first a b = ap (λ (x : Bool). cond x b (cond (nat_eq a b) a a)) (nat_eq-itself a)

pub instead-second : (a b : ℕ) → instead a b b ≡ a
instead-second a b = ap (instead a b) (sym (instead-first a b)) ∙ instead-twice a b a

pub instead-other : (a b n : ℕ) → n ≢ a → n ≢ b → instead a b n ≡ n
instead-other a b n not_a not_b = ap₂ (λ (x y : Bool). cond x b (cond y a n)) (nat_eq-false n a not_a) (nat_eq-false n b not_b)

pub only-at : (d : Netlist) (rows : List (List Seat)) → AreRows rows → (a b i r k : ℕ) (seats : List Seat) (s : Seat) → slice_get rows r ≡ Some seats → slice_get seats k ≡ Some s
    → instead a b s.instance ≡ i → IsOnlyAt rows (λ (t : Seat). instead a b t.instance) i r k
only-at d rows different a b i r k seats s in_row at is = record {
  seats = seats;
  seat = s;
  in_row = in_row;
  at = at;
  is = is;
  only = λ r' k' seats' t in_row' at' is'. one-place d rows different r' r k' k seats' seats t s in_row' at' in_row at (instead-apart a b t.instance s.instance (is' ∙ sym is));
}

-- behind which of two places a place of a row stands alone, and is so shifted with the seats behind that
pub record IsBehind (ra pa rb pb end_a r k : ℕ) : Type 0 where
  pub row : r ≡ ra
  pub behind : pa + 1 ≤ k
  pub within : k < end_a
  pub first : is_before ra pa r k ≡ true
  pub second : is_before rb pb r k ≡ false

pub record IsStill (ra pa rb pb end_a end_b r k : ℕ) : Type 0 where
  pub first : (r ≡ ra) × (pa + 1 ≤ k) × (k < end_a) → ⊥
  pub second : (r ≡ rb) × (pb + 1 ≤ k) × (k < end_b) → ⊥
  pub same : is_before ra pa r k ≡ is_before rb pb r k

pub not-behind : (row place end r k : ℕ) → is_before row place r k ≡ false → (r ≡ row) × (place + 1 ≤ k) × (k < end) → ⊥
not-behind row place end r k test h =
    let here : nat_eq r row ≡ true = nat_eq-true r row h.0 in
    let last : nat_lt place k ≡ false = sym (ap (λ (x : Bool). x && nat_lt place k) here) ∙ test in
    let low : k ≤ place = grind (arith, nat_tests) in
    omega (arith, low, h.1)

behind-either : (ra pa rb pb r k end_a la : ℕ) → end_a ≡ moved_end false (nat_eq ra rb) pa pb la → (r ≡ ra → k < la) → nat_eq r ra ≡ true → nat_lt pa k ≡ true
    → is_before rb pb r k ≡ false → IsBehind ra pa rb pb end_a r k
behind-either ra pa rb pb r k end_a la to long here after other = by (nat_eq r rb) refl
  where
    row : r ≡ ra
    row = nat_eq-equal r ra here

    low : pa + 1 ≤ k
    low = grind (arith, nat_tests)

    is_first : is_before ra pa r k ≡ true
    is_first = ap₂ (λ (x y : Bool). x && y) here after

    by : (b : Bool) → nat_eq r rb ≡ b → IsBehind ra pa rb pb end_a r k
    by true same =
        let both : nat_eq ra rb ≡ true = nat_eq-true ra rb (sym row ∙ nat_eq-equal r rb same) in
        let last : nat_lt pb k ≡ false = sym (ap (λ (x : Bool). x && nat_lt pb k) same) ∙ other in
        let high : k ≤ pb = grind (arith, nat_tests) in
        let end : end_a ≡ max pa pb + 1 = to ∙ ap (λ (x : Bool). cond x (max pa pb + 1) la) both in
        record { row = row; behind = low; within = omega (arith, high, end); first = is_first; second = other }
    by false apart =
        let both : nat_eq ra rb ≡ false = nat_eq-false ra rb (λ same. nat_eq-differ r rb apart (row ∙ same)) in
        let end : end_a ≡ la = to ∙ ap (λ (x : Bool). cond x (max pa pb + 1) la) both in
        record { row = row; behind = low; within = omega (arith, long row, end); first = is_first; second = other }

pub behind : (ra pa rb pb r k end_a end_b la lb : ℕ) → end_a ≡ moved_end false (nat_eq ra rb) pa pb la → end_b ≡ moved_end false (nat_eq rb ra) pb pa lb
    → (r ≡ ra → k < la) → (r ≡ rb → k < lb) → IsBehind ra pa rb pb end_a r k ⊎ IsBehind rb pb ra pa end_b r k ⊎ IsStill ra pa rb pb end_a end_b r k
behind ra pa rb pb r k end_a end_b la lb to to' long long' = by (nat_eq r ra) refl (nat_lt pa k) refl (nat_eq r rb) refl (nat_lt pb k) refl
  where
    both-behind : r ≡ ra → r ≡ rb → nat_lt pa k ≡ true → nat_lt pb k ≡ true → k < end_a → ⊥
    both-behind one two first second high =
        let both : nat_eq ra rb ≡ true = nat_eq-true ra rb (sym one ∙ two) in
        let end : end_a ≡ max pa pb + 1 = to ∙ ap (λ (x : Bool). cond x (max pa pb + 1) la) both in
        let low : pa < k = grind (arith, nat_tests) in
        let low' : pb < k = grind (arith, nat_tests) in
        omega (arith, high, end, low, low')

    both-behind' : r ≡ ra → r ≡ rb → nat_lt pa k ≡ true → nat_lt pb k ≡ true → k < end_b → ⊥
    both-behind' one two first second high =
        let both : nat_eq rb ra ≡ true = nat_eq-true rb ra (sym two ∙ one) in
        let end : end_b ≡ max pb pa + 1 = to' ∙ ap (λ (x : Bool). cond x (max pb pa + 1) lb) both in
        let low : pa < k = grind (arith, nat_tests) in
        let low' : pb < k = grind (arith, nat_tests) in
        omega (arith, high, end, low, low')

    neither : is_before ra pa r k ≡ false → is_before rb pb r k ≡ false → IsStill ra pa rb pb end_a end_b r k
    neither one two = record { first = not-behind ra pa end_a r k one; second = not-behind rb pb end_b r k two; same = one ∙ sym two }

    by : (x : Bool) → nat_eq r ra ≡ x → (y : Bool) → nat_lt pa k ≡ y → (z : Bool) → nat_eq r rb ≡ z → (w : Bool) → nat_lt pb k ≡ w
        → IsBehind ra pa rb pb end_a r k ⊎ IsBehind rb pb ra pa end_b r k ⊎ IsStill ra pa rb pb end_a end_b r k
    by true one true two true three true four =
        inr (inr (record {
          first = λ h. both-behind (nat_eq-equal r ra one) (nat_eq-equal r rb three) two four h.2;
          second = λ h. both-behind' (nat_eq-equal r ra one) (nat_eq-equal r rb three) two four h.2;
          same = ap₂ (λ (s t : Bool). s && t) one two ∙ sym (ap₂ (λ (s t : Bool). s && t) three four);
        }))
    by true one true two true three false four = inl (behind-either ra pa rb pb r k end_a la to long one two (ap₂ (λ (s t : Bool). s && t) three four))
    by true one true two false three w four = inl (behind-either ra pa rb pb r k end_a la to long one two (ap (λ (s : Bool). s && nat_lt pb k) three))
    by true one false two true three true four = inr (inl (behind-either rb pb ra pa r k end_b lb to' long' three four (ap₂ (λ (s t : Bool). s && t) one two)))
    by false one y two true three true four = inr (inl (behind-either rb pb ra pa r k end_b lb to' long' three four (ap (λ (s : Bool). s && nat_lt pa k) one)))
    by true one false two true three false four = inr (inr (neither (ap₂ (λ (s t : Bool). s && t) one two) (ap₂ (λ (s t : Bool). s && t) three four)))
    by true one false two false three w four = inr (inr (neither (ap₂ (λ (s t : Bool). s && t) one two) (ap (λ (s : Bool). s && nat_lt pb k) three)))
    by false one y two true three false four = inr (inr (neither (ap (λ (s : Bool). s && nat_lt pa k) one) (ap₂ (λ (s t : Bool). s && t) three four)))
    by false one y two false three w four = inr (inr (neither (ap (λ (s : Bool). s && nat_lt pa k) one) (ap (λ (s : Bool). s && nat_lt pb k) three)))
