use Rattle.std.proofs.Common.{List, [], ◌∷◌, ◌++◌, Bool, true, false, cond, map, ◌≡◌, ℕ, zero, suc, Some, None, subst, ◌||◌, ap, refl, ◌+◌, All, Contains, get_or, filter, ◌-◌, take, drop, set, length, arith}
use Rattle.std.specs.List.{AllByRecursion, slice_get, list_any, AllZip}
use Rattle.std.specs.Str.{bytes_eq}
use Rattle.std_laws.proofs.Bytes.{bytes_same}
use Rattle.std.proofs.lemmas.List.Elements.{All-nil, All-cons, All-head, All-tail, Contains-get_or}

pub every-weaker : {X : Type 0} (P Q : X → Type 0) → ((x : X) → P x → Q x) → (xs : List X) → AllByRecursion P xs → AllByRecursion Q xs
every-weaker P Q f [] h = tt
every-weaker P Q f (x ∷ xs) h = (f x h.0, every-weaker P Q f xs h.1)

pub every-both : {X : Type 0} (P Q : X → Type 0) (xs : List X) → AllByRecursion P xs → AllByRecursion Q xs → AllByRecursion (λ x. P x × Q x) xs
every-both P Q [] h k = tt
every-both P Q (x ∷ xs) h k = ((h.0, k.0), every-both P Q xs h.1 k.1)

pub every-append : {X : Type 0} (P : X → Type 0) (xs ys : List X) → AllByRecursion P xs → AllByRecursion P ys → AllByRecursion P (xs ++ ys)
every-append P [] ys h k = k
every-append P (x ∷ xs) ys h k = (h.0, every-append P xs ys h.1 k)

pub every-push : {X : Type 0} (P : X → Type 0) (xs : List X) (x : X) → AllByRecursion P xs → P x → AllByRecursion P (xs ++ x ∷ [])
every-push P xs x h last = every-append P xs (x ∷ []) h (last, tt)

-- the item behind a front
pub every-at : {X : Type 0} (P : X → Type 0) (xs rest : List X) (x : X) → AllByRecursion P (xs ++ x ∷ rest) → P x
every-at P [] rest x h = h.0
every-at P (y ∷ ys) rest x h = every-at P ys rest x h.1

pub every-filter : {X Y : Type 0} (P : Y → Type 0) (f : X → Y) (p : X → Bool) (xs : List X) → AllByRecursion P (map f xs) → AllByRecursion P (map f (filter p xs))
every-filter P f p [] h = tt
every-filter P f p (x ∷ xs) h = by (p x) (every-filter P f p xs h.1)
  where
    by : (b : Bool) → AllByRecursion P (map f (filter p xs)) → AllByRecursion P (map f (cond b (x ∷ filter p xs) (filter p xs)))
    by true rest = (h.0, rest)
    by false rest = rest

pub every-map : {X Y : Type 0} (P : Y → Type 0) (f : X → Y) (xs : List X) → AllByRecursion (λ x. P (f x)) xs → AllByRecursion P (map f xs)
every-map P f [] h = tt
every-map P f (x ∷ xs) h = (h.0, every-map P f xs h.1)

pub every-get : {X : Type 0} (P : X → Type 0) (xs : List X) (n : ℕ) (x : X) → AllByRecursion P xs → slice_get xs n ≡ Some x → P x
every-get P [] n x h is = absurd (no is)
  where
    no : None ≡ Some x → ⊥
    no e = cc
every-get P (y ∷ ys) zero x h is = subst P (same is) h.0
  where
    same : Some y ≡ Some x → y ≡ x
    same e = cc
every-get P (y ∷ ys) (suc n) x h is = every-get P ys n x h.1 is

-- the name of each item is among the names of all
pub every-own : {X : Type 0} (name : X → List ℕ) (xs : List X) → AllByRecursion (λ x. list_any (bytes_eq (name x)) (map name xs) ≡ true) xs
every-own name [] = tt
every-own name (x ∷ xs) = (
  ap (λ (b : Bool). b || list_any (bytes_eq (name x)) (map name xs)) (bytes_same (name x)),
  every-weaker (λ y. list_any (bytes_eq (name y)) (map name xs) ≡ true) (λ y. list_any (bytes_eq (name y)) (name x ∷ map name xs) ≡ true)
      (λ y h. or_true (bytes_eq (name y) (name x)) _ h) xs (every-own name xs),
)
  where
    or_true : (a b : Bool) → b ≡ true → (a || b) ≡ true
    or_true true b h = refl
    or_true false b h = h

-- what holds of the item at each place holds of every item
pub every-from-get : {X : Type 0} (P : X → Type 0) (xs : List X) → ((n : ℕ) (x : X) → slice_get xs n ≡ Some x → P x) → AllByRecursion P xs
every-from-get P [] h = tt
every-from-get P (x ∷ xs) h = (h zero x refl, every-from-get P xs (λ n y is. h (suc n) y is))

pub every-left : {X : Type 0} (P : X → Type 0) (xs ys : List X) → AllByRecursion P (xs ++ ys) → AllByRecursion P xs
every-left P [] ys h = tt
every-left P (x ∷ xs) ys h = (h.0, every-left P xs ys h.1)

pub every-right : {X : Type 0} (P : X → Type 0) (xs ys : List X) → AllByRecursion P (xs ++ ys) → AllByRecursion P ys
every-right P [] ys h = h
every-right P (x ∷ xs) ys h = every-right P xs ys h.1

-- what holds of each holds of those that a filter keeps
pub every-filtered : {X : Type 0} (P : X → Type 0) (p : X → Bool) (xs : List X) → AllByRecursion P xs → AllByRecursion P (filter p xs)
every-filtered P p [] h = tt
every-filtered P p (x ∷ xs) h = by (p x) (every-filtered P p xs h.1)
  where
    by : (b : Bool) → AllByRecursion P (filter p xs) → AllByRecursion P (cond b (x ∷ filter p xs) (filter p xs))
    by true more = (h.0, more)
    by false more = more

-- what holds of the images, and of more, holds of the images
pub All-front : {A B : Type 0} (P : B → Type 0) (f : A → B) (xs : List A) (ys : List B) → All P (map f xs ++ ys) → All (λ x. P (f x)) xs
All-front P f [] ys all = All-nil (λ x. P (f x))
All-front P f (x ∷ xs) ys all =
    All-cons (λ x. P (f x)) x xs (All-head P (f x) (map f xs ++ ys) all) (All-front P f xs ys (All-tail P (f x) (map f xs ++ ys) all))

-- what holds of each member holds of all
pub All-from_members : {A : Type 0} (P : A → Type 0) (xs : List A) → ((x : A) → Contains xs x → P x) → All P xs
All-from_members P xs each = λ k d within. each (get_or xs k d) (Contains-get_or xs k d within)

pub All-of_two : {A : Type 0} (P : A → Type 0) (a b : A) → P a → P b → All P (a ∷ (b ∷ []))
All-of_two {A} P a b first second =
    let none : List A = [] in
    All-cons P a (b ∷ none) first (All-cons P b none second (All-nil P))

pub All-of_three : {A : Type 0} (P : A → Type 0) (a b c : A) → P a → P b → P c → All P (a ∷ (b ∷ (c ∷ [])))
All-of_three {A} P a b c first second third =
    let none : List A = [] in
    All-cons P a (b ∷ (c ∷ none)) first (All-cons P b (c ∷ none) second (All-cons P c none third (All-nil P)))

pub every-all : {X : Type 0} (P : X → Type 0) (xs : List X) → AllByRecursion P xs → All P xs
every-all P [] h = All-nil P
every-all P (x ∷ xs) h = All-cons P x xs h.0 (every-all P xs h.1)

pub every-passes : {X : Type 0} (p : X → Bool) (xs : List X) → AllByRecursion (λ x. p x ≡ true) (filter p xs)
every-passes p [] = tt
every-passes p (x ∷ xs) = by (p x) refl (every-passes p xs)
  where
    by : (b : Bool) → p x ≡ b → AllByRecursion (λ y. p y ≡ true) (filter p xs) → AllByRecursion (λ y. p y ≡ true) (cond b (x ∷ filter p xs) (filter p xs))
    by true is more = (is, more)
    by false is more = more

pub every-taken : {X : Type 0} (P : X → Type 0) (n : ℕ) (xs : List X) → AllByRecursion P xs → AllByRecursion P (take n xs)
every-taken P zero xs all = tt
every-taken P (suc n) [] all = tt
every-taken P (suc n) (x ∷ xs) all = (all.0, every-taken P n xs all.1)

pub every-dropped : {X : Type 0} (P : X → Type 0) (n : ℕ) (xs : List X) → AllByRecursion P xs → AllByRecursion P (drop n xs)
every-dropped P zero xs all = all
every-dropped P (suc n) [] all = tt
every-dropped P (suc n) (x ∷ xs) all = every-dropped P n xs all.1

pub every-set : (P : ℕ → Type 0) (xs : List ℕ) (i n : ℕ) → AllByRecursion P xs → P n → AllByRecursion P (set xs i n)
every-set P [] i n all new = tt
every-set P (x ∷ xs) zero n all new = (new, all.1)
every-set P (x ∷ xs) (suc i) n all new = (all.0, every-set P xs i n all.1 new)

pub all-zip-length : {A B : Type 0} (R : A → B → Type 0) (xs : List A) (ys : List B) → AllZip R xs ys → length ys ≡ length xs
all-zip-length R [] [] h = refl
all-zip-length R [] (y ∷ ys) h = absurd h
all-zip-length R (x ∷ xs) [] h = absurd h
all-zip-length R (x ∷ xs) (y ∷ ys) h = let more = all-zip-length R xs ys h.1 in omega arith

pub all-zip-weaker : {A B : Type 0} (R S : A → B → Type 0) → ((a : A) (b : B) → R a b → S a b) → (xs : List A) (ys : List B) → AllZip R xs ys → AllZip S xs ys
all-zip-weaker R S f [] [] h = tt
all-zip-weaker R S f [] (y ∷ ys) h = h
all-zip-weaker R S f (x ∷ xs) [] h = h
all-zip-weaker R S f (x ∷ xs) (y ∷ ys) h = (f x y h.0, all-zip-weaker R S f xs ys h.1)
