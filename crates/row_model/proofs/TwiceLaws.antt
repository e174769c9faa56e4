use Rattle.std.proofs.Common.{◌≡◌, ◌≢◌, ◌<◌, ◌⊎◌, ℕ, List, [], ◌∷◌, ◌++◌, length, map, get_or, Bool, true, false, cond, Option, None, Some, refl, ap, ap₂, sym, ◌∙◌, subst, inl, inr, arith}
use Rattle.std.proofs.lemmas.Bool.Decides.{nat_tests}
use Rattle.std.proofs.lemmas.List.{get_or_default, get_or-map, length-map, map-append}
use Rattle.std.proofs.lemmas.Option.{same_Some}
use Rattle.std.specs.List.{find, AllByRecursion, Contains, IsDistinct}
use Rattle.std.specs.Option.{option_map}
use Rattle.std.specs.Prelude.{nat_eq, not}
use Rattle.row_model.specs.Changes.{exchanged, mirrored, seat_of, swapped, turned, with_exchanged}
use Rattle.row_model.specs.Rows.{AreRows, instances_in}
use Rattle.row_model.specs.declared.rows.Seat.{Seat}
use Rattle.row_model.proofs.SwapLaws.{all-instances-flat, exchanged-number, renamed, seat-found, seats_in}
use Rattle.std_laws.proofs.Every.{every-from-get, every-left, every-right}
use Rattle.std_laws.proofs.Members.{find-same, get-contains}
use Rattle.std_laws.proofs.Tests.{nat_eq-flips, nat_eq-itself}
use Rattle.std_laws.proofs.Images.{map-map}
use Rattle.std_laws.proofs.Distinct.{apart-places}

-- the images of the seats of rows are the seats of the images
seats-map : (f : Seat → Seat) (rows : List (List Seat)) → seats_in (map (map f) rows) ≡ map f (seats_in rows)
seats-map f [] = refl
seats-map f (seats ∷ rows) = ap (λ (l : List Seat). map f seats ++ l) (seats-map f rows) ∙ sym (map-append f seats (seats_in rows))

-- a search among images
find-map : (p : Seat → Bool) (f : Seat → Seat) (xs : List Seat) → find p (map f xs) ≡ option_map f (find (λ (x : Seat). p (f x)) xs)
find-map p f [] = refl
find-map p f (x ∷ xs) = by (p (f x)) (find-map p f xs)
  where
    by : (t : Bool) → find p (map f xs) ≡ option_map f (find (λ (x : Seat). p (f x)) xs)
        → cond t (Some (f x)) (find p (map f xs)) ≡ option_map f (cond t (Some x) (find (λ (x : Seat). p (f x)) xs))
    by true rest = refl
    by false rest = rest

renamed-test : (a b n : ℕ) → nat_eq (renamed a b n) a ≡ nat_eq n b
renamed-test a b n = by (nat_eq n a) refl (nat_eq n b) refl
  where
    by : (t : Bool) → nat_eq n a ≡ t → (u : Bool) → nat_eq n b ≡ u → nat_eq (cond t b (cond u a n)) a ≡ u
    by true one u two = let same : n ≡ a = grind (arith, nat_tests) in nat_eq-flips b a ∙ ap (λ (m : ℕ). nat_eq m b) (sym same) ∙ two
    by false one true two = grind (arith, nat_tests)
    by false one false two = one

renamed-back : (a b n : ℕ) → nat_eq (renamed a b n) b ≡ nat_eq n a
renamed-back a b n = by (nat_eq n a) refl (nat_eq n b) refl
  where
    by : (t : Bool) → nat_eq n a ≡ t → (u : Bool) → nat_eq n b ≡ u → nat_eq (cond t b (cond u a n)) b ≡ t
    by true one u two = grind (arith, nat_tests)
    by false one true two = let same : n ≡ b = grind (arith, nat_tests) in nat_eq-flips a b ∙ ap (λ (m : ℕ). nat_eq m a) (sym same) ∙ one
    by false one false two = two

-- after two seats exchange places, the seat of the one instance is the image of that of the other
seat-after : (rows : List (List Seat)) (s t : Seat) (a b : ℕ) → ((n : ℕ) → nat_eq (renamed s.instance t.instance n) a ≡ nat_eq n b)
    → seat_of (map (map (exchanged s t)) rows) a ≡ option_map (exchanged s t) (seat_of rows b)
seat-after rows s t a b tests =
    ap (λ (l : List Seat). find (λ (x : Seat). nat_eq x.instance a) l) (seats-map (exchanged s t) rows)
    ∙ find-map (λ (x : Seat). nat_eq x.instance a) (exchanged s t) (seats_in rows)
    ∙ ap (option_map (exchanged s t))
    (find-same (λ (x : Seat). nat_eq (exchanged s t x).instance a) (λ (x : Seat). nat_eq x.instance b)
    (λ x. ap (λ (n : ℕ). nat_eq n a) (exchanged-number s t x) ∙ tests x.instance) (seats_in rows))

pub exchanged-first : (s t : Seat) → exchanged s t s ≡ t
exchanged-first s t = ap (λ (b : Bool). cond b t (cond (nat_eq s.instance t.instance) s s)) (nat_eq-itself s.instance)

pub exchanged-second : (s t : Seat) → (s.instance ≡ t.instance → s ≡ t) → exchanged s t t ≡ s
exchanged-second s t one = by (nat_eq t.instance s.instance) refl
  where
    by : (b : Bool) → nat_eq t.instance s.instance ≡ b → cond b t (cond (nat_eq t.instance t.instance) s t) ≡ s
    by true test = let same : s.instance ≡ t.instance = grind (arith, nat_tests) in sym (one same)
    by false test = ap (λ (b : Bool). cond b s t) (nat_eq-itself t.instance)

-- seats of one instance, where no instance stands twice, are one
pub unique-seat : (rows : List (List Seat)) (x s : Seat) → AreRows rows → Contains (seats_in rows) x → Contains (seats_in rows) s → x.instance ≡ s.instance → x ≡ s
unique-seat rows x s different has_x has_s same = by (choose has_x.0 has_s.0)
  where
    choose : (i j : ℕ) → (i ≡ j) ⊎ (i ≢ j)
    choose i j = grind arith

    numbers : IsDistinct nat_eq (instances_in (seats_in rows))
    numbers = subst (λ (ns : List ℕ). IsDistinct nat_eq ns) (sym (all-instances-flat rows)) different

    number : (y : Seat) (has : Contains (seats_in rows) y) → get_or (instances_in (seats_in rows)) has.0 0 ≡ y.instance
    number y has = get_or-map (λ (s : Seat). s.instance) (seats_in rows) has.0 y 0 has.1 ∙ ap (λ (s : Seat). s.instance) has.2

    within : (y : Seat) (has : Contains (seats_in rows) y) → has.0 < length (instances_in (seats_in rows))
    within y has = omega (arith, length-map (seats_in rows) (λ (s : Seat). s.instance), has.1)

    by : (has_x.0 ≡ has_s.0) ⊎ (has_x.0 ≢ has_s.0) → x ≡ s
    by (inl place) =
        sym has_x.2 ∙ get_or_default (seats_in rows) has_x.0 x s has_x.1 ∙ ap (λ (n : ℕ). get_or (seats_in rows) n s) place ∙ has_s.2
    by (inr place) =
        absurd (apart-places (instances_in (seats_in rows)) has_x.0 has_s.0 0 numbers (within x has_x) (within s has_s) place (number x has_x ∙ same ∙ sym (number s has_s)))

exchanged-twice : (s t x : Seat) → (s.instance ≡ t.instance → s ≡ t) → (x.instance ≡ s.instance → x ≡ s) → (x.instance ≡ t.instance → x ≡ t) → exchanged s t (exchanged s t x) ≡ x
exchanged-twice s t x one is_s is_t = by (nat_eq x.instance s.instance) refl (nat_eq x.instance t.instance) refl
  where
    by : (b : Bool) → nat_eq x.instance s.instance ≡ b → (c : Bool) → nat_eq x.instance t.instance ≡ c → exchanged s t (cond b t (cond c s x)) ≡ x
    by true first c second = let same : x.instance ≡ s.instance = grind (arith, nat_tests) in exchanged-second s t one ∙ sym (is_s same)
    by false first true second = let same : x.instance ≡ t.instance = grind (arith, nat_tests) in exchanged-first s t ∙ sym (is_t same)
    by false first false second = ap₂ (λ (b c : Bool). cond b t (cond c s x)) first second

-- rows whose seats do not change
unchanged : (f : Seat → Seat) (rows : List (List Seat)) → AllByRecursion (λ (x : Seat). f x ≡ x) (seats_in rows) → map (map f) rows ≡ rows
unchanged f [] all = refl
unchanged f (seats ∷ rows) all =
    ap₂ (λ (l : List Seat) (ls : List (List Seat)). l ∷ ls) (same seats (every-left (λ (x : Seat). f x ≡ x) seats (seats_in rows) all))
    (unchanged f rows (every-right (λ (x : Seat). f x ≡ x) seats (seats_in rows) all))
  where
    same : (seats : List Seat) → AllByRecursion (λ (x : Seat). f x ≡ x) seats → map f seats ≡ seats
    same [] all = refl
    same (s ∷ seats) all = ap₂ (λ (x : Seat) (xs : List Seat). x ∷ xs) all.0 (same seats all.1)

rows-twice : (f g : Seat → Seat) (rows : List (List Seat)) → map (map f) (map (map g) rows) ≡ map (map (λ (x : Seat). f (g x))) rows
rows-twice f g [] = refl
rows-twice f g (seats ∷ rows) = ap₂ (λ (l : List Seat) (ls : List (List Seat)). l ∷ ls) (map-map g f seats) (rows-twice f g rows)

-- two swaps of the same instances change nothing
pub swap-twice : (rows : List (List Seat)) (a b : ℕ) → AreRows rows → swapped a b (swapped a b rows) ≡ rows
unfolding swapped
swap-twice rows a b different = by (seat_of rows a) (seat_of rows b) refl refl
  where
    by : (o p : Option Seat) → seat_of rows a ≡ o → seat_of rows b ≡ p
        → with_exchanged (seat_of (with_exchanged o p rows) a) (seat_of (with_exchanged o p rows) b) (with_exchanged o p rows) ≡ rows
    by None p one two = ap (λ (q : Option Seat). with_exchanged q (seat_of rows b) rows) one
    by (Some s) None one two = ap₂ (λ (q r : Option Seat). with_exchanged q r rows) one two
    by (Some s) (Some t) one two =
        let f = exchanged s t in
        let found_s = seat-found rows a s one in
        let found_t = seat-found rows b t two in
        let is_one : s.instance ≡ t.instance → s ≡ t = λ same. unique-seat rows s t different found_s.1 found_t.1 same in
        let test : (n : ℕ) → nat_eq (renamed s.instance t.instance n) a ≡ nat_eq n b =
        λ n. ap₂ (λ (k m : ℕ). nat_eq (renamed s.instance t.instance n) k) (sym found_s.0) (sym found_t.0) ∙ renamed-test s.instance t.instance n ∙ ap (nat_eq n) found_t.0 in
        let back : (n : ℕ) → nat_eq (renamed s.instance t.instance n) b ≡ nat_eq n a =
        λ n. ap (nat_eq (renamed s.instance t.instance n)) (sym found_t.0) ∙ renamed-back s.instance t.instance n ∙ ap (nat_eq n) found_s.0 in
        let new_a = seat-after rows s t a b test ∙ ap (option_map f) two ∙ ap (λ (x : Seat). Some x) (exchanged-second s t is_one) in
        let new_b = seat-after rows s t b a back ∙ ap (option_map f) one ∙ ap (λ (x : Seat). Some x) (exchanged-first s t) in
        ap₂ (λ (q r : Option Seat). with_exchanged q r (map (map f) rows)) new_a new_b
        ∙ rows-twice f f rows
        ∙ unchanged (λ (x : Seat). f (f x)) rows (every-from-get (λ (x : Seat). f (f x) ≡ x) (seats_in rows) (λ n x at.
        let has = get-contains (seats_in rows) n x at in
        exchanged-twice s t x is_one (λ same. unique-seat rows x s different has found_s.1 same) (λ same. unique-seat rows x t different has found_t.1 same)))

turned-twice : (a : ℕ) (s : Seat) → turned a (turned a s) ≡ s
turned-twice a s = by (nat_eq s.instance a) refl
  where
    over : (m : Bool) → not (not m) ≡ m
    over true = refl
    over false = refl

    by : (b : Bool) → nat_eq s.instance a ≡ b → turned a (cond b (record { instance = s.instance; mirror = not s.mirror }) s) ≡ s
    by true test =
        ap (λ (b : Bool). cond b (record { instance = s.instance; mirror = not (not s.mirror) }) (record { instance = s.instance; mirror = not s.mirror })) test
        ∙ ap (λ (m : Bool). record { instance = s.instance; mirror = m }) (over s.mirror)
    by false test = ap (λ (b : Bool). cond b (record { instance = s.instance; mirror = not s.mirror }) s) test

-- nor do two mirrorings of one
pub mirror-twice : (rows : List (List Seat)) (a : ℕ) → mirrored a (mirrored a rows) ≡ rows
unfolding mirrored
mirror-twice rows a =
    rows-twice (turned a) (turned a) rows
    ∙ unchanged (λ (x : Seat). turned a (turned a x)) rows (every-from-get (λ (x : Seat). turned a (turned a x) ≡ x) (seats_in rows) (λ n x at. turned-twice a x))

-- a swap of an instance with itself changes nothing
pub swap-same : (rows : List (List Seat)) (a b : ℕ) → AreRows rows → a ≡ b → swapped a b rows ≡ rows
unfolding swapped
swap-same rows a b different same = by (seat_of rows a) (seat_of rows b) refl refl
  where
    kept : (s x : Seat) → (x.instance ≡ s.instance → x ≡ s) → exchanged s s x ≡ x
    kept s x is = choose (nat_eq x.instance s.instance) refl
      where
        choose : (b : Bool) → nat_eq x.instance s.instance ≡ b → cond b s (cond b s x) ≡ x
        choose true test = let one : x.instance ≡ s.instance = grind (arith, nat_tests) in sym (is one)
        choose false test = refl

    by : (o p : Option Seat) → seat_of rows a ≡ o → seat_of rows b ≡ p → with_exchanged o p rows ≡ rows
    by None p one two = refl
    by (Some s) None one two = refl
    by (Some s) (Some t) one two =
        let found = seat-found rows a s one in
        let own : s ≡ t = same_Some s t (sym one ∙ ap (seat_of rows) same ∙ two) in
        ap (λ (x : Seat). map (map (exchanged s x)) rows) (sym own)
        ∙ unchanged (exchanged s s) rows (every-from-get (λ (x : Seat). exchanged s s x ≡ x) (seats_in rows) (λ n x at.
        kept s x (λ is. unique-seat rows x s different (get-contains (seats_in rows) n x at) found.1 is)))
