use Rattle.std.proofs.Common.{◌≡◌, ◌+◌, ℕ, suc, List, ◌∷◌, ◌++◌, Some, take, drop, ap, sym, ◌∙◌, length, arith, length-drop, zero, [], refl, ◌-◌, ◌≤◌, map, min, leb, inl, inr, length-take, ◌<◌, add-one}
use Rattle.std.specs.List.{slice_get}
use Rattle.std.proofs.lemmas.List.{take-append-drop, take-append-le, take_all, take-take, drop-append-le, length-append, take_at, drop-drop, drop_all, length-take-le}
use Rattle.std_laws.proofs.Places.{drop-here}
use Rattle.std.proofs.Math.Seq.{take-append_seam, drop-append_seam, take-length, drop-cons}
use Rattle.std.proofs.lemmas.Bool.{cases_lt, le-leb, lt-leb}
use Rattle.std.specs.Prelude.{slice_range}
use Rattle.std.proofs.lemmas.Option.{slice_get_within, get_or_from_slice_get}

-- a list round a member of it
pub split-here : {X : Type 0} (xs : List X) (k : ℕ) (x : X) → slice_get xs k ≡ Some x → xs ≡ take k xs ++ x ∷ drop (suc k) xs
split-here xs k x is = sym (take-append-drop k xs) ∙ ap (λ rest. take k xs ++ rest) (drop-here xs k x is)

pub overwritten-whole : {X : Type 0} (items new : List X) (len : ℕ) → len ≡ length items → length new ≡ length items → take len (new ++ drop (length new) items) ≡ new
overwritten-whole items new len is long = ap (λ (m : ℕ). take m (new ++ drop (length new) items)) (is ∙ sym long) ∙ take-append_seam new (drop (length new) items)

-- a list that is written over by one of its length is that
pub overwritten-same : {X : Type 0} (new old : List X) → length new ≡ length old → take (length old) (new ++ drop (length new) old) ≡ new
overwritten-same new old same =
    let rest : length (drop (length new) old) ≡ 0 = omega (arith, length-drop (length new) old) in
    take-append-le (length old) new (drop (length new) old) (omega arith) ∙ take_all (length old) new (omega arith)

pub drop-one : {X : Type 0} (xs : List X) (k : ℕ) → drop 1 (drop k xs) ≡ drop (suc k) xs
drop-one [] zero = refl
drop-one [] (suc k) = refl
drop-one (x ∷ xs) zero = refl
drop-one (x ∷ xs) (suc k) = drop-one xs k

-- what is cut off is cut off before more is added, too
pub take-twice : {X : Type 0} (most : ℕ) (xs ys : List X) → take most (take most xs ++ ys) ≡ take most (xs ++ ys)
take-twice zero xs ys = refl
take-twice (suc most) [] ys = refl
take-twice (suc most) (x ∷ xs) ys = ap (λ t. x ∷ t) (take-twice most xs ys)

-- of the pairs that are added only those are kept for which there is room
pub take-room : {X Y : Type 0} (most count : ℕ) (f : Y → X) (xs : List X) (ys : List Y) → length xs ≤ most → count ≡ min (length ys) (most - length xs)
    → xs ++ map f (take count ys) ≡ take most (xs ++ map f ys)
take-room zero count f [] [] room is = let none : count ≡ 0 = omega arith in ap (λ n. map f (take n [])) none
take-room zero count f [] (y ∷ ys) room is = let none : count ≡ 0 = omega arith in ap (λ n. map f (take n (y ∷ ys))) none
take-room zero count f (x ∷ xs) ys room is = absurd (omega arith)
take-room (suc most) count f [] [] room is = let none : count ≡ 0 = omega arith in ap (λ n. map f (take n [])) none
take-room (suc most) count f [] (y ∷ ys) room is =
    let less : min (length ys) (most - 0) + 1 ≡ count = omega arith in
    let one : count ≡ suc (min (length ys) (most - 0)) = omega arith in
    ap (λ n. map f (take n (y ∷ ys))) one ∙ ap (λ t. f y ∷ t) (take-room most (min (length ys) (most - 0)) f [] ys (omega arith) refl)
take-room (suc most) count f (x ∷ xs) ys room is =
    ap (λ t. x ∷ t) (take-room most count f xs ys (omega arith) (omega arith))

-- one more than are told are asked for
pub fewer-all : {X : Type 0} (n : ℕ) (all : List X) → leb (length (take (n + 1) all)) n ≡ leb (length all) n
fewer-all n all =
    let asked : length (take (n + 1) all) ≡ min (n + 1) (length all) = length-take (n + 1) all in
    elim (cases_lt n (length all)) [
      | inl more ↦ lt-leb (length (take (n + 1) all)) n (omega arith) ∙ sym (lt-leb (length all) n more)
      | inr few ↦ le-leb (length (take (n + 1) all)) n (omega arith) ∙ sym (le-leb (length all) n few)
    ]

pub first-all : {X : Type 0} (n : ℕ) (all asked told : List X) (len : ℕ) → asked ≡ take (n + 1) all → told ≡ take n asked → len ≡ length asked
    → (told ≡ take n all) × (leb len n ≡ leb (length all) n)
first-all n all asked told len is cut counted = (
  cut ∙ ap (take n) is ∙ take-take n (n + 1) all (omega arith),
  ap (λ k. leb k n) (counted ∙ ap length is) ∙ fewer-all n all,
)

-- a part of a list lies in a longer list too
pub slice_range-append : {A : Type 0} (items list : List A) (from to : ℕ) → from ≤ to → to ≤ length items
    → slice_range (items ++ list) from to ≡ slice_range items from to
slice_range-append items list from to less within =
    let long : to - from ≤ length (drop from items) = let is = length-drop from items in omega (arith, is, less, within) in
    ap (λ l. take (to - from) l) (drop-append-le from items list (omega (arith, less, within))) ∙ take-append-le (to - from) (drop from items) list long

-- what is put behind a list is its last part
pub slice_range-last : {A : Type 0} (items list : List A) → slice_range (items ++ list) (length items) (length (items ++ list)) ≡ list
slice_range-last items list =
    let size : length (items ++ list) - length items ≡ length list = let is = length-append items list in omega (arith, is) in
    ap (λ l. take (length (items ++ list) - length items) l) (drop-append_seam items list) ∙ ap (λ n. take n list) size ∙ take-length list

-- what fits in a front of a list is a front of the list
pub front_of_front : (n k : ℕ) (xs : List ℕ) → n ≤ length (take k xs) → take n (take k xs) ≡ take n xs
front_of_front n k xs fits = take-take n k xs (omega (arith, fits, length-take k xs))

-- the n bytes from place `start` on, and what stands after them in the file
pub rest_from : (file tail : List ℕ) (start n : ℕ) → n ≤ length file - start
    → drop start file ≡ take n (take n (drop start file) ++ tail) ++ drop (start + n) file
rest_from file tail start n fits =
    let left : List ℕ = drop start file in
    let size : length (take n left) ≡ n = omega (arith, fits, length-take n left, length-drop start file) in
    rw (take_at (take n left) tail n size, ← drop-drop n start file) (sym (take-append-drop n left))

-- past its end a file has no bytes
pub rest_past : (file into : List ℕ) (at n : ℕ) → length file ≤ at → n ≡ 0
    → drop at file ≡ take n into ++ drop (at + n) file
rest_past file into at n past none =
    rw (none, drop_all at file past, drop_all (at + 0) file (omega (arith, past))) refl

-- a list with one member more, in two parts
pub snoc-parts : {A : Type 0} (xs earlier later : List A) (x y : A) → xs ++ (x ∷ []) ≡ earlier ++ (y ∷ later)
    → (P : Type 0) → (xs ≡ earlier → x ≡ y → P) → ((fewer : List A) → xs ≡ earlier ++ (y ∷ fewer) → P) → P
snoc-parts [] [] [] x y h p here there = here refl cc
snoc-parts [] [] (z ∷ later) x y h p here there = cc
snoc-parts [] (z ∷ []) later x y h p here there = cc
snoc-parts [] (z ∷ w ∷ earlier) later x y h p here there = cc
snoc-parts (v ∷ xs) [] later x y h p here there = there xs cc
snoc-parts (v ∷ xs) (z ∷ earlier) later x y h p here there =
    let first : v ≡ z = cc in
    let rest : xs ++ (x ∷ []) ≡ earlier ++ (y ∷ later) = cc in
    snoc-parts xs earlier later x y rest p
    (λ same last. here (rw (first, same) refl) last)
    (λ fewer same. there fewer (rw (first, same) refl))

pub length-none : (xs : List ℕ) → length xs ≡ 0 → xs ≡ []
length-none [] none = refl
length-none (x ∷ xs) none = absurd (omega arith)

-- two lists, one behind the other, that are empty
pub both-empty : {X : Type 0} (xs ys : List X) → xs ++ ys ≡ [] → (xs ≡ []) × (ys ≡ [])
both-empty [] ys none = (refl, none)
both-empty (x ∷ xs) ys none = let never : ⊥ = cc in absurd never

pub none-taken : {X : Type 0} (n : ℕ) (xs : List X) → 0 < n → take n xs ≡ [] → xs ≡ []
none-taken n [] some none = refl
none-taken zero (x ∷ xs) some none = absurd (omega arith)
none-taken (suc n) (x ∷ xs) some none = let never : ⊥ = cc in absurd never

pub length-here : {X : Type 0} (xs : List X) (k : ℕ) (x : X) → slice_get xs k ≡ Some x → length (take k xs) ≡ k
length-here xs k x is = let within : k < length xs = slice_get_within xs k x is in length-take-le k xs (omega arith)

-- what is left of a list from a place on: the element there, and what is left behind it
pub drop-next : {A : Type 0} (xs : List A) (k : ℕ) (x : A) → slice_get xs k ≡ Some x → drop k xs ≡ x ∷ drop (k + 1) xs
drop-next {A = A} xs k x at =
    drop-cons xs k x (slice_get_within xs k x at)
    ∙ ap (λ (y : A). y ∷ drop (suc k) xs) (get_or_from_slice_get xs k x x at)
    ∙ ap (λ (n : ℕ). x ∷ drop n xs) (sym (add-one k))

pub empty-five : {X : Type 0} (a b c d e : List X) → a ≡ [] → b ≡ [] → c ≡ [] → d ≡ [] → e ≡ [] → a ++ b ++ c ++ d ++ e ≡ []
empty-five {X} a b c d e a_is b_is c_is d_is e_is =
    ap (λ (l : List X). l ++ b ++ c ++ d ++ e) a_is ∙ ap (λ (l : List X). l ++ c ++ d ++ e) b_is ∙ ap (λ (l : List X). l ++ d ++ e) c_is
    ∙ ap (λ (l : List X). l ++ e) d_is ∙ e_is

-- a list of five parts
pub five-empty : {X : Type 0} (a b c d e : List X) → a ++ b ++ c ++ d ++ e ≡ [] → (a ≡ []) × (b ≡ []) × (c ≡ []) × (d ≡ []) × (e ≡ [])
five-empty a b c d e none =
    let last = both-empty (a ++ b ++ c ++ d) e none in
    let fourth = both-empty (a ++ b ++ c) d last.0 in
    let third = both-empty (a ++ b) c fourth.0 in
    let second = both-empty a b third.0 in
    (second.0, second.1, third.1, fourth.1, last.1)
