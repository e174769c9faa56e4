use Rattle.std.proofs.Common.{◌≡◌, ◌+◌, List, [], ◌∷◌, ◌++◌, length, Some, refl, slice_get, ◌<◌, ℕ, suc, map, ap, ap₂, ◌∙◌, arith, ◌≢◌, zero, Option, None, slice_set, ◌≤◌, take, drop, replicate, inl, inr, ◌⊎◌, set, subst, get_or}
use Rattle.std.specs.List.{range_with_len}
use Rattle.std.specs.Option.{option_map}
use Rattle.std.proofs.lemmas.Option.{slice_get_within, slice_get-get_or, get_or_from_slice_get, none-some, same_Some, slice_get_read}
use Rattle.std.proofs.Math.Seq.{take-append_seam}
use Rattle.std.proofs.lemmas.List.{get_or-replicate, length-replicate, take_more, get_or_default}
use Rattle.std.proofs.lemmas.Bool.{cases_lt}

-- the item behind a front
pub get-front : {X : Type 0} (front : List X) (x : X) (rest : List X) → slice_get (front ++ x ∷ rest) (length front) ≡ Some x
get-front [] x rest = refl
get-front (y ∷ ys) x rest = get-front ys x rest

-- a list is known by its elements
pub list-by : {X : Type 0} (f : ℕ → X) (a : ℕ) (xs : List X) → ((i : ℕ) → i < length xs → slice_get xs i ≡ Some (f (i + a)))
    → xs ≡ map f (range_with_len a (length xs))
list-by f a [] has = refl
list-by {X} f a (x ∷ xs) has =
    let first : Some x ≡ Some (f (0 + a)) = has 0 (omega arith) in
    let none : 0 + a ≡ a = omega arith in
    let head : x ≡ f (0 + a) = cc in
    let tail : xs ≡ map f (range_with_len (a + 1) (length xs)) =
    list-by f (a + 1) xs (λ i below. let more : suc i + a ≡ i + (a + 1) = omega arith in has (suc i) (omega arith) ∙ ap (λ (n : ℕ). Some (f n)) more) in
    ap₂ (λ (y : X) (ys : List X). y ∷ ys) (head ∙ ap f none) tail

-- where a list changes at one place by a rule that changes nothing elsewhere
pub changed-at : {X : Type 0} (rule : ℕ → X → X) (xs : List X) (n : ℕ) (new : X) → ((x : X) → slice_get xs n ≡ Some x → new ≡ rule n x)
    → ((i : ℕ) (x : X) → i ≢ n → x ≡ rule i x) → (i : ℕ) → slice_get (slice_set xs n new) i ≡ option_map (rule i) (slice_get xs i)
changed-at rule [] n new here there i = refl
changed-at rule (x ∷ xs) zero new here there zero = ap (λ y. Some y) (here x refl)
changed-at {X} rule (x ∷ xs) zero new here there (suc i) = same (slice_get xs i)
  where
    same : (o : Option X) → o ≡ option_map (rule (suc i)) o
    same None = refl
    same (Some y) = ap (λ z. Some z) (there (suc i) y (λ is. absurd (omega (arith, is))))
changed-at rule (x ∷ xs) (suc n) new here there zero = ap (λ y. Some y) (there 0 x (λ is. absurd (omega (arith, is))))
changed-at rule (x ∷ xs) (suc n) new here there (suc i) =
    changed-at (λ k. rule (suc k)) xs n new here (λ k y other. there (suc k) y (λ is. other (omega (arith, is)))) i

-- and where there is no such place
pub unchanged-past : {X : Type 0} (rule : ℕ → X → X) (xs : List X) (n : ℕ) → length xs ≤ n → ((i : ℕ) (x : X) → i ≢ n → x ≡ rule i x)
    → (i : ℕ) → slice_get xs i ≡ option_map (rule i) (slice_get xs i)
unchanged-past {X} rule xs n past there i = by (slice_get xs i) refl
  where
    by : (o : Option X) → slice_get xs i ≡ o → o ≡ option_map (rule i) o
    by None at = refl
    by (Some x) at =
        let within : i < length xs = slice_get_within xs i x at in
        ap (λ z. Some z) (there i x (λ is. absurd (omega (arith, is, within, past))))

-- what stands at a place within a list
pub at-place : {A : Type 0} (xs : List A) (k : ℕ) → k < length xs → (x : A) × (slice_get xs k ≡ Some x)
at-place [] k within = absurd (omega arith)
at-place (x ∷ xs) zero within = (x, refl)
at-place (x ∷ xs) (suc k) within = at-place xs k (omega arith)

-- a list of one item at so many places, which are then changed by a rule
pub filled : {X : Type 0} (rule : ℕ → X → X) (f : ℕ → X) (x : X) → ((k : ℕ) → rule k x ≡ f k) → (n : ℕ) (items new : List X) (len : ℕ) → items ≡ replicate n x
    → len ≡ length new → length new ≡ length items → ((k : ℕ) → slice_get new k ≡ option_map (rule k) (slice_get items k))
    → take len (new ++ drop (length new) items) ≡ map f (range_with_len 0 n)
filled {X} rule f x first n items new len same long as_long each =
    let wide : length items ≡ n = ap length same ∙ length-replicate n x in
    ap (λ (m : ℕ). take m (new ++ drop (length new) items)) long
    ∙ take-append_seam new (drop (length new) items)
    ∙ list-by f 0 new (λ i below. at i (omega arith))
    ∙ ap (λ (m : ℕ). map f (range_with_len 0 m)) (as_long ∙ wide)
  where
    at : (i : ℕ) → i < n → slice_get new i ≡ Some (f (i + 0))
    at i below =
        let number : i ≡ i + 0 = omega arith in
        let long : length (replicate {A = X} n x) ≡ n = length-replicate n x in
        let there : slice_get items i ≡ Some x =
        ap (λ (xs : List X). slice_get xs i) same ∙ slice_get-get_or (replicate n x) i x (omega arith) ∙ ap (λ (y : X). Some y) (get_or-replicate n i x x below) in
        each i ∙ ap (option_map (rule i)) there ∙ ap (λ (y : X). Some y) (first i) ∙ ap (λ (m : ℕ). Some (f m)) number

-- a list from a place on begins with what stands there, and from its end on there is none
pub drop-here : {X : Type 0} (xs : List X) (k : ℕ) (x : X) → slice_get xs k ≡ Some x → drop k xs ≡ x ∷ drop (suc k) xs
drop-here [] k x is = let never : ⊥ = cc in absurd never
drop-here (y ∷ ys) zero x is = let same : y ≡ x = cc in ap (λ z. z ∷ ys) same
drop-here (y ∷ ys) (suc k) x is = drop-here ys k x is

pub drop-past : {X : Type 0} (xs : List X) (k : ℕ) → length xs ≤ k → drop k xs ≡ []
drop-past [] zero past = refl
drop-past [] (suc k) past = refl
drop-past (x ∷ xs) zero past = absurd (omega arith)
drop-past (x ∷ xs) (suc k) past = drop-past xs k (omega arith)

-- a front up to a place ends with what stands there
pub take-here : {X : Type 0} (xs : List X) (k : ℕ) (x : X) → slice_get xs k ≡ Some x → take (k + 1) xs ≡ take k xs ++ x ∷ []
take-here xs k x is =
    take_more xs k x (slice_get_within xs k x is) ∙ ap (λ y. take k xs ++ y ∷ []) (get_or_from_slice_get xs k x x is)

-- what stands in one list behind another stands in the first or in the second
pub get-either : {X : Type 0} (xs ys : List X) (n : ℕ) (x : X) → slice_get (xs ++ ys) n ≡ Some x
    → (slice_get xs n ≡ Some x) ⊎ ((k : ℕ) × (n ≡ length xs + k) × (slice_get ys k ≡ Some x))
get-either [] ys n x at = inr (n, omega arith, at)
get-either (y ∷ xs) ys zero x at = inl at
get-either (y ∷ xs) ys (suc n) x at = elim (get-either xs ys n x at) [ inl here ↦ inl here | inr there ↦ inr (there.0, (let e = there.1 in omega arith), there.2) ]

-- what stands at a place of a list stands there before other elements
pub get-before : {X : Type 0} (xs ys : List X) (k : ℕ) (x : X) → slice_get xs k ≡ Some x → slice_get (xs ++ ys) k ≡ Some x
get-before [] ys k x at = absurd (none-some x at)
get-before (y ∷ xs) ys zero x at = at
get-before (y ∷ xs) ys (suc k) x at = get-before xs ys k x at

-- what stands behind a list
pub get-behind : {X : Type 0} (xs ys : List X) (n k : ℕ) → n ≡ length xs + k → slice_get (xs ++ ys) n ≡ slice_get ys k
get-behind [] ys n k is = ap (slice_get ys) (omega arith)
get-behind (x ∷ xs) ys zero k is = absurd (omega arith)
get-behind (x ∷ xs) ys (suc n) k is = get-behind xs ys n k (omega arith)

-- the image of an element stands at the element's place
pub map-at : {A B : Type 0} (f : A → B) (xs : List A) (k : ℕ) (x : A) → slice_get xs k ≡ Some x → slice_get (map f xs) k ≡ Some (f x)
map-at f [] k x at = absurd (none-some x at)
map-at f (y ∷ xs) zero x at = ap (λ z. Some (f z)) (same_Some y x at)
map-at f (y ∷ xs) (suc k) x at = map-at f xs k x at

-- what a list holds after a push
pub slice_get-push : {X : Type 0} (xs : List X) (k : ℕ) (y z : X) → slice_get (xs ++ y ∷ []) k ≡ Some z
    → ((k ≡ length xs) × (z ≡ y)) ⊎ (slice_get xs k ≡ Some z)
slice_get-push [] zero y z h = inl (refl, cc)
slice_get-push [] (suc k) y z h = inr h
slice_get-push (x ∷ xs) zero y z h = inr h
slice_get-push (x ∷ xs) (suc k) y z h = elim (slice_get-push xs k y z h) [ inl e ↦ inl (ap suc e.0, e.1) | inr g ↦ inr g ]

-- what a list holds after a write: what was written, or what it held
pub slice_get-set : {X : Type 0} (xs : List X) (i k : ℕ) (y z : X) → slice_get (set xs i y) k ≡ Some z
    → ((k ≡ i) × (z ≡ y)) ⊎ (slice_get xs k ≡ Some z)
slice_get-set [] i k y z h = inr h
slice_get-set (x ∷ xs) zero zero y z h = inl (refl, cc)
slice_get-set (x ∷ xs) zero (suc k) y z h = inr h
slice_get-set (x ∷ xs) (suc i) zero y z h = inr h
slice_get-set (x ∷ xs) (suc i) (suc k) y z h = elim (slice_get-set xs i k y z h) [ inl e ↦ inl (ap suc e.0, e.1) | inr g ↦ inr g ]

-- what holds of the elements before a place, and of the one there
pub get_or-more : {X : Type 0} (P : X → Type 0) (xs : List X) (k : ℕ) (x : X) → k < length xs → x ≡ get_or xs k x → P x
    → ((i : ℕ) (d : X) → i < k → P (get_or xs i d)) → (i : ℕ) (d : X) → i < k + 1 → P (get_or xs i d)
get_or-more P xs k x within is here before i d below = elim (cases_lt i k) [
  | inl less ↦ before i d less
  | inr more ↦
      let same : k ≡ i = omega arith in
      subst (λ j. P (get_or xs j d)) same (subst P (is ∙ get_or_default xs k x d within) here)
]

-- what stands at a place of a list after another is written there
pub get-set-same : {X : Type 0} (xs : List X) (i : ℕ) (x : X) → i < length xs → slice_get (set xs i x) i ≡ Some x
get-set-same [] i x within = absurd (omega arith)
get-set-same (y ∷ ys) zero x within = refl
get-set-same (y ∷ ys) (suc i) x within = get-set-same ys i x (omega arith)

-- and elsewhere
pub get-set-other : {X : Type 0} (xs : List X) (i k : ℕ) (x : X) → k ≢ i → slice_get (set xs i x) k ≡ slice_get xs k
get-set-other [] i k x other = refl
get-set-other (y ∷ ys) zero zero x other = absurd (other refl)
get-set-other (y ∷ ys) zero (suc k) x other = refl
get-set-other (y ∷ ys) (suc i) zero x other = refl
get-set-other (y ∷ ys) (suc i) (suc k) x other = get-set-other ys i k x (λ h. other (ap suc h))

pub get-none : {X : Type 0} (xs : List X) (k : ℕ) → slice_get xs k ≡ None → length xs ≤ k
get-none [] k none = omega arith
get-none (x ∷ xs) zero none = cc
get-none (x ∷ xs) (suc k) none = let rest = get-none xs k none in omega arith

-- lists with the same at each place are one
pub list-same : {X : Type 0} (xs ys : List X) → ((n : ℕ) → slice_get xs n ≡ slice_get ys n) → xs ≡ ys
list-same [] [] same = refl
list-same [] (y ∷ ys) same = let no = same 0 in cc
list-same (x ∷ xs) [] same = let no = same 0 in cc
list-same {X} (x ∷ xs) (y ∷ ys) same = ap₂ (λ (z : X) (zs : List X). z ∷ zs) (same_Some x y (same 0)) (list-same xs ys (λ n. same (suc n)))

-- an element of a list with one more is the last, or was there before
pub get-pushed : {X : Type 0} (xs : List X) (x : X) → slice_get (xs ++ x ∷ []) (length xs) ≡ Some x
get-pushed [] x = refl
get-pushed (y ∷ xs) x = get-pushed xs x

pub get-before-pushed : {X : Type 0} (xs : List X) (x y : X) (k : ℕ) → k < length xs → slice_get (xs ++ x ∷ []) k ≡ slice_get xs k
get-before-pushed [] x y k within = absurd (omega (arith, within))
get-before-pushed (z ∷ xs) x y zero within = refl
get-before-pushed (z ∷ xs) x y (suc k) within = get-before-pushed xs x y k (omega (arith, within))

-- what holds of the elements of two lists by place, with one more element of the second
pub each-push : {X Y : Type 0} (P : X → Y → Type 0) (xs : List X) (ys : List Y) (x : X) (y : Y)
    → ((k : ℕ) (p : X) (q : Y) → slice_get xs k ≡ Some p → slice_get ys k ≡ Some q → P p q) → slice_get xs (length ys) ≡ Some x → P x y
    → (k : ℕ) (p : X) (q : Y) → slice_get xs k ≡ Some p → slice_get (ys ++ y ∷ []) k ≡ Some q → P p q
each-push {X} {Y} P xs [] x y each here one zero p q there also =
    let first : x ≡ p = cc (here, there) in
    let second : y ≡ q = cc also in
    subst (λ (b : Y). P p b) second (subst (λ (a : X). P a y) first one)
each-push P xs [] x y each here one (suc k) p q there also = cc also
each-push P [] (z ∷ ys) x y each here one k p q there also = cc here
each-push P (w ∷ xs) (z ∷ ys) x y each here one zero p q there also = each zero p q there also
each-push P (w ∷ xs) (z ∷ ys) x y each here one (suc k) p q there also =
    each-push P xs ys x y (λ n a b. each (suc n) a b) here one k p q there also

-- what stands at a place of the images is the image of what stands there
pub map-get : {A B : Type 0} (f : A → B) (xs : List A) (k : ℕ) (y : B) → slice_get (map f xs) k ≡ Some y → (x : A) × (slice_get xs k ≡ Some x) × (f x ≡ y)
map-get f [] k y at = absurd (none-some y at)
map-get f (x ∷ xs) zero y at = (x, refl, same_Some (f x) y at)
map-get f (x ∷ xs) (suc k) y at = map-get f xs k y at

pub get-read : (ends : List ℕ) (number x : ℕ) → number < length ends → x ≡ get_or ends number x → slice_get ends number ≡ Some x
get-read ends number x within is = slice_get_read ends (length ends) number x refl within is

pub get-dropped : {X : Type 0} (xs : List X) (n k : ℕ) → slice_get (drop n xs) k ≡ slice_get xs (n + k)
get-dropped xs zero k = let here : k ≡ 0 + k = omega arith in ap (λ i. slice_get xs i) here
get-dropped [] (suc n) k = refl
get-dropped (x ∷ xs) (suc n) k =
    let step : suc (n + k) ≡ suc n + k = omega arith in get-dropped xs n k ∙ ap (λ i. slice_get (x ∷ xs) i) step

pub get_or-front : {A : Type 0} (xs ys : List A) (i : ℕ) (d : A) → i < length xs → get_or (xs ++ ys) i d ≡ get_or xs i d
get_or-front [] ys i d h = absurd (omega arith)
get_or-front (x ∷ xs) ys zero d h = refl
get_or-front (x ∷ xs) ys (suc i) d h = get_or-front xs ys i d (omega arith)

pub get_or-pushed : {A : Type 0} (xs : List A) (x d : A) → get_or (xs ++ (x ∷ [])) (length xs) d ≡ x
get_or-pushed [] x d = refl
get_or-pushed (y ∷ xs) x d = get_or-pushed xs x d
