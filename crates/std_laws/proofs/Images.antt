use Rattle.std.proofs.Common.{◌≡◌, ◌-◌, List, [], ◌∷◌, map, refl, ap, ap₂, filter, Bool, true, false, cond, ◌*◌, arith, length, ◌+◌, ◌∙◌, ℕ, zero, suc, Some, ◌++◌, sym, take, get_or, ◌<◌, length-take, Contains}
use Rattle.std.specs.List.{AllByRecursion, flat_map, enumerate_from}
use Rattle.std.proofs.lemmas.List.{length-append, take_more}
use Rattle.std.proofs.lemmas.Option.{none-some, same_Some}
use Rattle.std.specs.Prelude.{slice_get}
use Rattle.std_laws.proofs.Places.{get-before, get-behind}
use Rattle.std_laws.proofs.Members.{member-head, member-tail}

-- images of images, and equal images
pub map-map : {A B C : Type 0} (f : A → B) (g : B → C) (xs : List A) → map g (map f xs) ≡ map (λ (x : A). g (f x)) xs
map-map f g [] = refl
map-map {C = C} f g (x ∷ xs) = ap (λ (ys : List C). g (f x) ∷ ys) (map-map f g xs)

pub map-same : {A B : Type 0} (P : A → Type 0) (f g : A → B) → ((x : A) → P x → f x ≡ g x) → (xs : List A) → AllByRecursion P xs → map f xs ≡ map g xs
map-same P f g same [] every = refl
map-same {B = B} P f g same (x ∷ xs) every = ap₂ (λ (y : B) (ys : List B). y ∷ ys) (same x every.0) (map-same P f g same xs every.1)

-- a filter of images is the images of a filter
pub filter-map : {A B : Type 0} (p : B → Bool) (f : A → B) (xs : List A) → filter p (map f xs) ≡ map f (filter (λ (x : A). p (f x)) xs)
filter-map p f [] = refl
filter-map {A} {B} p f (x ∷ xs) = by (p (f x)) (filter-map p f xs)
  where
    by : (b : Bool) → filter p (map f xs) ≡ map f (filter (λ (y : A). p (f y)) xs)
        → cond b (f x ∷ filter p (map f xs)) (filter p (map f xs)) ≡ map f (cond b (x ∷ filter (λ (y : A). p (f y)) xs) (filter (λ (y : A). p (f y)) xs))
    by true more = ap (λ (ys : List B). f x ∷ ys) more
    by false more = more

-- lists of three elements: how long they are together, and what stands in them
pub length-threes : {A B : Type 0} (f : A → List B) → ((x : A) → length (f x) ≡ 3) → (xs : List A) → length (flat_map f xs) ≡ 3 * length xs
length-threes f three [] = refl
length-threes f three (x ∷ xs) = omega (arith, length-append (f x) (flat_map f xs), length-threes f three xs, three x)

pub get-threes : {A B : Type 0} (f : A → List B) → ((x : A) → length (f x) ≡ 3) → (xs : List A) (i j n : ℕ) (x : A) (y : B)
    → slice_get xs i ≡ Some x → slice_get (f x) j ≡ Some y → n ≡ 3 * i + j → slice_get (flat_map f xs) n ≡ Some y
get-threes f three [] i j n x y at inner is = absurd (none-some x at)
get-threes {A = A} f three (z ∷ xs) zero j n x y at inner is =
    get-before (f z) (flat_map f xs) n y
    (ap (slice_get (f z)) (let e = is in omega arith) ∙ ap (λ (a : A). slice_get (f a) j) (same_Some z x at) ∙ inner)
get-threes f three (z ∷ xs) (suc i) j n x y at inner is =
    get-behind (f z) (flat_map f xs) n (3 * i + j) (let e = is in let t = three z in omega arith)
    ∙ get-threes f three xs i j (3 * i + j) x y at inner refl

-- one more element to be numbered
pub enumerate_from-push : {X : Type 0} (n : ℕ) (xs : List X) (x : X)
    → enumerate_from n (xs ++ x ∷ []) ≡ enumerate_from n xs ++ (n + length xs, x) ∷ []
enumerate_from-push n [] x = let here : n ≡ n + 0 = omega arith in ap (λ m. (m, x) ∷ []) here
enumerate_from-push n (y ∷ ys) x =
    let step : n + 1 + length ys ≡ n + length (y ∷ ys) = omega arith in
    ap (λ t. (n, y) ∷ t) (enumerate_from-push (n + 1) ys x ∙ ap (λ m. enumerate_from (n + 1) ys ++ (m, x) ∷ []) step)

-- the numbers of one element more
pub enumerate_from-take : {X : Type 0} (xs : List X) (k : ℕ) (x : X) → k < length xs → x ≡ get_or xs k x
    → enumerate_from 0 (take (k + 1) xs) ≡ enumerate_from 0 (take k xs) ++ (k, x) ∷ []
enumerate_from-take xs k x within is =
    let front : take (k + 1) xs ≡ take k xs ++ x ∷ [] = take_more xs k x within ∙ ap (λ y. take k xs ++ y ∷ []) (sym is) in
    let len : 0 + length (take k xs) ≡ k = omega (arith, length-take k xs) in
    ap (enumerate_from 0) front ∙ enumerate_from-push 0 (take k xs) x ∙ ap (λ m. enumerate_from 0 (take k xs) ++ (m, x) ∷ []) len

pub none-mapped : {X Y : Type 0} (f : X → Y) (xs : List X) → map f xs ≡ [] → xs ≡ []
none-mapped f [] none = refl
none-mapped f (x ∷ xs) none = let never : ⊥ = cc in absurd never

-- what two functions make of what two tests pick, where they agree on the list
pub picked-first : {A : Type 0} (f g : ℕ → A) (x : ℕ) (xs ys : List ℕ) (b c : Bool) → f x ≡ g x → b ≡ c → map f xs ≡ map g ys
    → map f (cond b (x ∷ xs) xs) ≡ map g (cond c (x ∷ ys) ys)
picked-first f g x xs ys true true same equal later = λ i. same i ∷ later i
picked-first f g x xs ys false false same equal later = later
picked-first f g x xs ys true false same equal later = cc
picked-first f g x xs ys false true same equal later = cc

pub picked-agree : {A : Type 0} (f g : ℕ → A) (p q : ℕ → Bool) (xs : List ℕ) → ((x : ℕ) → Contains xs x → (f x ≡ g x) × (p x ≡ q x))
    → map f (filter p xs) ≡ map g (filter q xs)
picked-agree f g p q [] same = refl
picked-agree f g p q (x ∷ xs) same =
    picked-first f g x (filter p xs) (filter q xs) (p x) (q x) (same x (member-head x xs)).0 (same x (member-head x xs)).1
    (picked-agree f g p q xs (λ y member. same y (member-tail x xs y member)))

pub map-itself : (ns : List ℕ) → map (λ (n : ℕ). n) ns ≡ ns
map-itself [] = refl
map-itself (n ∷ ns) = ap (λ (l : List ℕ). n ∷ l) (map-itself ns)
