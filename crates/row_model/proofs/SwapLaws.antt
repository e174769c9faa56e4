use Rattle.std.proofs.Common.{◌≡◌, ◌≢◌, ◌<◌, ℕ, List, [], ◌∷◌, ◌++◌, length, map, get_or, set, Bool, true, false, cond, Option, None, Some, refl, ap, ap₂, sym, ◌∙◌, subst, arith}
use Rattle.std.proofs.lemmas.Bool.Decides.{nat_tests}
use Rattle.std.proofs.lemmas.List.{ext_get_or, get_or_default, get_or-map, get_or-set_other, get_or-set_same, length-map, map-append}
use Rattle.std.proofs.Math.ListN.{length-set}
use Rattle.std.proofs.lemmas.List.Edits.{swap_is}
use Rattle.std.proofs.lemmas.List.Sorted.{IsPermutation-refl, IsPermutation-swap, IsPermutation-trans}
use Rattle.std.proofs.lemmas.Map.Keys.{IsDistinct-IsPermutation}
use Rattle.std.specs.List.{flat_map, range_with_len, Contains, IsDistinct}
use Rattle.std.specs.List.Sorted.{IsPermutation}
use Rattle.std.specs.Prelude.{nat_eq, not}
use Rattle.design_model.specs.Netlist.{Netlist}
use Rattle.row_model.specs.Changes.{exchanged, mirrored, seat_of, swapped, turned, with_exchanged}
use Rattle.row_model.specs.Rows.{all_instances, ArePlaced, AreRows, instances_in}
use Rattle.row_model.specs.declared.rows.Seat.{Seat}
use Rattle.row_model.proofs.PlacedLaws.{placed-distinct}
use Rattle.std_laws.proofs.Members.{find-passes, map-member}
use Rattle.std_laws.proofs.Tests.{nat_eq-flips, nat_eq-true, nat_eq-false}
use Rattle.std_laws.proofs.Images.{map-itself}
use Rattle.std_laws.proofs.Distinct.{apart-places}

-- the one of two numbers where the other stands, and any other number as it is
abbrev pub renamed : ℕ → ℕ → ℕ → ℕ
renamed a b n = cond (nat_eq n a) b (cond (nat_eq n b) a n)

renamed-first : (a b : ℕ) → renamed a b a ≡ b
renamed-first a b = rw (nat_eq-true a a refl)

renamed-second : (a b : ℕ) → renamed a b b ≡ a
renamed-second a b = choose (nat_eq b a) refl
  where
    choose : (t : Bool) → nat_eq b a ≡ t → cond t b (cond (nat_eq b b) a b) ≡ a
    choose true test = grind (arith, nat_tests)
    choose false test = rw (nat_eq-true b b refl)

renamed-none : (a b n : ℕ) → n ≢ a → n ≢ b → renamed a b n ≡ n
renamed-none a b n not_a not_b = rw (nat_eq-false n a not_a, nat_eq-false n b not_b)

-- of different numbers, two that stand in each other's place
renamed-places : (xs : List ℕ) (i j a b d k : ℕ) → IsDistinct nat_eq xs → i < length xs → j < length xs → get_or xs i d ≡ a → get_or xs j d ≡ b → k < length xs
    → renamed a b (get_or xs k d) ≡ get_or (set (set xs i b) j a) k d
renamed-places xs i j a b d k different in_i in_j at_i at_j in_k = by (nat_eq k j) refl (nat_eq k i) refl
  where
    by : (t : Bool) → nat_eq k j ≡ t → (u : Bool) → nat_eq k i ≡ u → renamed a b (get_or xs k d) ≡ get_or (set (set xs i b) j a) k d
    by true at_k u test =
        let same : k ≡ j = grind (arith, nat_tests) in
        let now : get_or (set (set xs i b) j a) k d ≡ a = ap (λ (n : ℕ). get_or (set (set xs i b) j a) n d) same ∙ get_or-set_same (set xs i b) j a d (omega (arith, length-set xs i b)) in
        let was : get_or xs k d ≡ b = ap (λ (n : ℕ). get_or xs n d) same ∙ at_j in
        ap (renamed a b) was ∙ renamed-second a b ∙ sym now
    by false at_k true test =
        let same : k ≡ i = grind (arith, nat_tests) in
        let off : k ≢ j = grind (arith, nat_tests) in
        let now : get_or (set (set xs i b) j a) k d ≡ b = get_or-set_other (set xs i b) j k a d off ∙ ap (λ (n : ℕ). get_or (set xs i b) n d) same ∙ get_or-set_same xs i b d in_i in
        let was : get_or xs k d ≡ a = ap (λ (n : ℕ). get_or xs n d) same ∙ at_i in
        ap (renamed a b) was ∙ renamed-first a b ∙ sym now
    by false at_k false test =
        let off_i : k ≢ i = grind (arith, nat_tests) in
        let off : k ≢ j = grind (arith, nat_tests) in
        let now : get_or (set (set xs i b) j a) k d ≡ get_or xs k d = get_or-set_other (set xs i b) j k a d off ∙ get_or-set_other xs i k b d off_i in
        let not_a : get_or xs k d ≢ a = λ h. apart-places xs k i d different in_k in_i off_i (h ∙ sym at_i) in
        let not_b : get_or xs k d ≢ b = λ h. apart-places xs k j d different in_k in_j off (h ∙ sym at_j) in
        renamed-none a b (get_or xs k d) not_a not_b ∙ sym now

renamed-permutes : (xs : List ℕ) (a b : ℕ) → IsDistinct nat_eq xs → Contains xs a → Contains xs b → IsPermutation xs (map (renamed a b) xs)
renamed-permutes xs a b different has_a has_b =
    let at_j : get_or xs has_b.0 a ≡ b = place xs b has_b a in
    IsPermutation-swap xs (map (renamed a b) xs) has_a.0 has_b.0 has_a.1 has_b.1
    (ext_get_or a (map (renamed a b) xs) (set (set xs has_a.0 b) has_b.0 a)
    (length-map xs (renamed a b) ∙ sym (length-set xs has_a.0 b) ∙ sym (length-set (set xs has_a.0 b) has_b.0 a))
    (λ k within. let in_k : k < length xs = omega (arith, length-map xs (renamed a b)) in
    get_or-map (renamed a b) xs k a a in_k ∙ renamed-places xs has_a.0 has_b.0 a b a k different has_a.1 has_b.1 has_a.2 at_j in_k)
    ∙ sym (ap₂ (λ (x y : ℕ). set (set xs has_a.0 x) has_b.0 y) at_j has_a.2)
    ∙ swap_is xs has_a.0 has_b.0 a has_a.1 has_b.1)
  where
    place : (xs : List ℕ) (x : ℕ) → (has : Contains xs x) → (d : ℕ) → get_or xs has.0 d ≡ x
    place xs x has d = get_or_default xs has.0 d x has.1 ∙ has.2

pub exchanged-number : (a b s : Seat) → (exchanged a b s).instance ≡ renamed a.instance b.instance s.instance
exchanged-number a b s = by (nat_eq s.instance a.instance) (nat_eq s.instance b.instance)
  where
    by : (t u : Bool) → (cond t b (cond u a s)).instance ≡ cond t b.instance (cond u a.instance s.instance)
    by true u = refl
    by false true = refl
    by false false = refl

turned-number : (a : ℕ) (s : Seat) → (turned a s).instance ≡ s.instance
turned-number a s = by (nat_eq s.instance a)
  where
    by : (t : Bool) → (cond t (record { instance = s.instance; mirror = not s.mirror }) s).instance ≡ s.instance
    by true = refl
    by false = refl

instances-map : (f : Seat → Seat) (g : ℕ → ℕ) → ((s : Seat) → (f s).instance ≡ g s.instance) → (seats : List Seat) → instances_in (map f seats) ≡ map g (instances_in seats)
instances-map f g same [] = refl
instances-map f g same (s ∷ seats) = ap₂ (λ (n : ℕ) (ns : List ℕ). n ∷ ns) (same s) (instances-map f g same seats)

-- the instances of rows whose seats are changed
pub all-instances-map : (f : Seat → Seat) (g : ℕ → ℕ) → ((s : Seat) → (f s).instance ≡ g s.instance) → (rows : List (List Seat))
    → all_instances (map (map f) rows) ≡ map g (all_instances rows)
all-instances-map f g same [] = refl
all-instances-map f g same (seats ∷ rows) =
    ap₂ (λ (xs ys : List ℕ). xs ++ ys) (instances-map f g same seats) (all-instances-map f g same rows) ∙ sym (map-append g (instances_in seats) (all_instances rows))

-- all seats of rows
abbrev pub seats_in : List (List Seat) → List Seat
seats_in rows = flat_map (λ (seats : List Seat). seats) rows

pub all-instances-flat : (rows : List (List Seat)) → instances_in (seats_in rows) ≡ all_instances rows
all-instances-flat [] = refl
all-instances-flat (seats ∷ rows) =
    map-append (λ (s : Seat). s.instance) seats (seats_in rows) ∙ ap (λ (ys : List ℕ). instances_in seats ++ ys) (all-instances-flat rows)

-- the seat of an instance is a seat of that instance
pub seat-found : (rows : List (List Seat)) (a : ℕ) (s : Seat) → seat_of rows a ≡ Some s → (s.instance ≡ a) × Contains (seats_in rows) s
seat-found rows a s is =
    let found = find-passes (λ (s : Seat). nat_eq s.instance a) (seats_in rows) s is in
    (equal s.instance a found.0, found.1)
  where
    equal : (n m : ℕ) → nat_eq n m ≡ true → n ≡ m
    equal n m test = grind (arith, nat_tests)

seat-listed : (rows : List (List Seat)) (s : Seat) → Contains (seats_in rows) s → Contains (all_instances rows) s.instance
seat-listed rows s has =
    subst (λ (ns : List ℕ). Contains ns s.instance) (all-instances-flat rows) (map-member (λ (s : Seat). s.instance) (seats_in rows) s has)

-- rows in which two of their seats exchange places have the same instances
pub exchange-permutes : (rows : List (List Seat)) (a b : Seat) → AreRows rows → Contains (seats_in rows) a → Contains (seats_in rows) b
    → IsPermutation (all_instances rows) (all_instances (map (map (exchanged a b)) rows))
exchange-permutes rows a b different has_a has_b =
    subst (λ (ns : List ℕ). IsPermutation (all_instances rows) ns) (sym (all-instances-map (exchanged a b) (renamed a.instance b.instance) (exchanged-number a b) rows))
    (renamed-permutes (all_instances rows) a.instance b.instance different (seat-listed rows a has_a) (seat-listed rows b has_b))

pub swap-permutes : (rows : List (List Seat)) (a b : ℕ) → AreRows rows → IsPermutation (all_instances rows) (all_instances (swapped a b rows))
unfolding swapped
swap-permutes rows a b different = by (seat_of rows a) (seat_of rows b) refl refl
  where
    by : (o p : Option Seat) → seat_of rows a ≡ o → seat_of rows b ≡ p → IsPermutation (all_instances rows) (all_instances (with_exchanged o p rows))
    by None p one two = IsPermutation-refl (all_instances rows)
    by (Some s) None one two = IsPermutation-refl (all_instances rows)
    by (Some s) (Some t) one two = exchange-permutes rows s t different (seat-found rows a s one).1 (seat-found rows b t two).1

pub turned-same : (rows : List (List Seat)) (a : ℕ) → all_instances (map (map (turned a)) rows) ≡ all_instances rows
turned-same rows a = all-instances-map (turned a) (λ (n : ℕ). n) (turned-number a) rows ∙ map-itself (all_instances rows)

pub mirrored-same : (rows : List (List Seat)) (a : ℕ) → all_instances (mirrored a rows) ≡ all_instances rows
unfolding mirrored
mirrored-same rows a = turned-same rows a

-- no instance stands twice after two seats exchange their places, and after one is turned over
pub exchange-rows : (rows : List (List Seat)) (a b : ℕ) (s t : Seat) → AreRows rows → seat_of rows a ≡ Some s → seat_of rows b ≡ Some t → AreRows (map (map (exchanged s t)) rows)
exchange-rows rows a b s t different one two =
    IsDistinct-IsPermutation nat_eq nat_eq-flips (all_instances rows) (all_instances (map (map (exchanged s t)) rows))
    (exchange-permutes rows s t different (seat-found rows a s one).1 (seat-found rows b t two).1) different

pub turned-rows : (rows : List (List Seat)) (a : ℕ) → AreRows rows → AreRows (map (map (turned a)) rows)
turned-rows rows a different = subst (λ (ns : List ℕ). IsDistinct nat_eq ns) (sym (turned-same rows a)) different

pub swapped-length : (rows : List (List Seat)) (a b : ℕ) → length (swapped a b rows) ≡ length rows
unfolding swapped
swapped-length rows a b = by (seat_of rows a) (seat_of rows b)
  where
    by : (o p : Option Seat) → length (with_exchanged o p rows) ≡ length rows
    by None p = refl
    by (Some s) None = refl
    by (Some s) (Some t) = length-map rows (map (exchanged s t))

pub mirrored-length : (rows : List (List Seat)) (a : ℕ) → length (mirrored a rows) ≡ length rows
unfolding mirrored
mirrored-length rows a = length-map rows (map (turned a))

-- rows that hold each instance of a design once do so after a swap, and after a mirroring
pub swap-placed : (d : Netlist) (rows : List (List Seat)) (a b : ℕ) → ArePlaced d rows → ArePlaced d (swapped a b rows)
swap-placed d rows a b placed = record {
  some = omega (arith, swapped-length rows a b, placed.some);
  few = omega (arith, swapped-length rows a b, placed.few);
  once = IsPermutation-trans (range_with_len 0 (length d.instances)) (all_instances rows) (all_instances (swapped a b rows)) placed.once (swap-permutes rows a b (placed-distinct d rows placed));
}

pub mirror-placed : (d : Netlist) (rows : List (List Seat)) (a : ℕ) → ArePlaced d rows → ArePlaced d (mirrored a rows)
mirror-placed d rows a placed = record {
  some = omega (arith, mirrored-length rows a, placed.some);
  few = omega (arith, mirrored-length rows a, placed.few);
  once = subst (λ (ns : List ℕ). IsPermutation (range_with_len 0 (length d.instances)) ns) (sym (mirrored-same rows a)) placed.once;
}
