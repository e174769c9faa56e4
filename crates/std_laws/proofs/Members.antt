use Rattle.std.proofs.Common.{◌-◌, refl, arith, List, ◌∷◌, Contains, [], ◌≡◌, ◌⊎◌, inl, inr, Bool, true, filter, sym, subst, ap, ◌∙◌, false, cond, map, ◌||◌, Some, ℕ, ◌<◌, ◌≤◌, ◌+◌, ◌&&◌, zero, suc, length, get_or, ◌++◌, eqb, eq-eqb}
use Rattle.std.proofs.lemmas.List.Elements.{Contains-append_right, Contains-append_cases, Contains-push_cases, All-contains, All-contains_itself, All-filter, filter_passes, All-cons, All-nil, Contains-append_left}
use Rattle.std.proofs.lemmas.Bool.{both_ways, cases_Bool, cond-true, cond-false, cond_both, and_parts, ne_eqb}
use Rattle.std.specs.List.{find, list_any, slice_get, All, range_with_len, flat_map, list_all, AllByRecursion}
use Rattle.std.proofs.lemmas.Option.{slice_get-get_or, get_or_from_slice_get, slice_get_within, none-some, same_Some}
use Rattle.std.proofs.lemmas.List.FromFn.{get_or-range_with_len, length-range_with_len}

-- the head of a list is a member, and so is each of the rest
pub member-head : {A : Type 0} (a : A) (xs : List A) → Contains (a ∷ xs) a
member-head a xs = (0, omega arith, refl)

pub member-tail : {A : Type 0} (a : A) (xs : List A) (x : A) → Contains xs x → Contains (a ∷ xs) x
member-tail a xs x member = Contains-append_right (a ∷ []) xs x member

-- and there is no other
pub member-cases : {A : Type 0} (a : A) (xs : List A) (x : A) → Contains (a ∷ xs) x → (a ≡ x) ⊎ Contains xs x
member-cases a xs x member =
    elim (Contains-append_cases (a ∷ []) xs x member) [
      | inl here ↦ elim (Contains-push_cases [] a x here) [
        | inl none ↦ absurd (omega (arith, none.1))
        | inr same ↦ inl same
      ]
      | inr later ↦ inr later
    ]

-- the members of a filtered list
pub filter-from : {A : Type 0} (p : A → Bool) (xs : List A) (x : A) → Contains (filter p xs) x → Contains xs x × (p x ≡ true)
filter-from p xs x member = (
  All-contains (Contains xs) (filter p xs) x (All-filter p (Contains xs) xs (All-contains_itself xs)) member,
  All-contains (λ y. p y ≡ true) (filter p xs) x (filter_passes p xs) member,
)

pub filter-member : {A : Type 0} (p : A → Bool) (xs : List A) (x : A) → Contains xs x → p x ≡ true → Contains (filter p xs) x
filter-member p [] x member passes = absurd (omega (arith, member.1))
filter-member {A = A} p (a ∷ xs) x member passes =
    by (p a) refl (member-cases a xs x member) (λ later. filter-member p xs x later passes)
  where
    by : (b : Bool) → p a ≡ b → (a ≡ x) ⊎ Contains xs x → (Contains xs x → Contains (filter p xs) x) → Contains (cond b (a ∷ filter p xs) (filter p xs)) x
    by true is (inl same) more = subst (λ (z : A). Contains (a ∷ filter p xs) z) same (member-head a (filter p xs))
    by true is (inr later) more = member-tail a (filter p xs) x (more later)
    by false is (inl same) more = absurd (both_ways (p x) (ap p (sym same) ∙ is) passes)
    by false is (inr later) more = more later

-- the members of a list of images
pub map-member : {A B : Type 0} (f : A → B) (xs : List A) (x : A) → Contains xs x → Contains (map f xs) (f x)
map-member f [] x member = absurd (omega (arith, member.1))
map-member {A = A} {B = B} f (a ∷ xs) x member = by (member-cases a xs x member) (λ later. map-member f xs x later)
  where
    by : (a ≡ x) ⊎ Contains xs x → (Contains xs x → Contains (map f xs) (f x)) → Contains (f a ∷ map f xs) (f x)
    by (inl same) more = subst (λ (z : A). Contains (f a ∷ map f xs) (f z)) same (member-head (f a) (map f xs))
    by (inr later) more = member-tail (f a) (map f xs) (f x) (more later)

pub map-cases : {A B : Type 0} (f : A → B) (xs : List A) (y : B) → Contains (map f xs) y → (x : A) × Contains xs x × (f x ≡ y)
map-cases f [] y member = absurd (omega (arith, member.1))
map-cases {A = A} {B = B} f (a ∷ xs) y member = by (member-cases (f a) (map f xs) y member) (λ later. map-cases f xs y later)
  where
    by : (f a ≡ y) ⊎ Contains (map f xs) y → (Contains (map f xs) y → (x : A) × Contains xs x × (f x ≡ y)) → (x : A) × Contains (a ∷ xs) x × (f x ≡ y)
    by (inl same) more = (a, member-head a xs, same)
    by (inr later) more = let found = more later in (found.0, member-tail a xs found.0 found.1, found.2)

-- a search finds a member that passes
pub find-member : {A : Type 0} (p : A → Bool) (xs : List A) → list_any p xs ≡ true
    → (x : A) × Contains xs x × (p x ≡ true) × (find p xs ≡ Some x)
find-member p [] any = absurd (both_ways false refl any)
find-member {A = A} p (a ∷ xs) any = by (p a) refl any (λ later. find-member p xs later)
  where
    by : (b : Bool) → p a ≡ b → (b || list_any p xs) ≡ true
        → (list_any p xs ≡ true → (x : A) × Contains xs x × (p x ≡ true) × (find p xs ≡ Some x))
        → (x : A) × Contains (a ∷ xs) x × (p x ≡ true) × (cond b (Some a) (find p xs) ≡ Some x)
    by true is any more = (a, member-head a xs, is, refl)
    by false is any more = let found = more any in (found.0, member-tail a xs found.0 found.1, found.2, found.3)

pub any-member : {A : Type 0} (p : A → Bool) (xs : List A) (x : A) → Contains xs x → p x ≡ true → list_any p xs ≡ true
any-member p [] x member passes = absurd (omega (arith, member.1))
any-member {A = A} p (a ∷ xs) x member passes = by (p a) refl (member-cases a xs x member) (λ later. any-member p xs x later passes)
  where
    by : (b : Bool) → p a ≡ b → (a ≡ x) ⊎ Contains xs x → (Contains xs x → list_any p xs ≡ true) → (b || list_any p xs) ≡ true
    by true is either more = refl
    by false is (inl same) more = absurd (both_ways (p x) (ap p (sym same) ∙ is) passes)
    by false is (inr later) more = more later

-- a member stands at its place
pub contains-get : {X : Type 0} (xs : List X) (x : X) (h : Contains xs x) → slice_get xs h.0 ≡ Some x
contains-get {X = X} xs x h = slice_get-get_or xs h.0 x h.1 ∙ ap (λ (y : X). Some y) h.2

-- a member stands at some place
pub member-place : {A : Type 0} (xs : List A) (x : A) → Contains xs x → (k : ℕ) × (slice_get xs k ≡ Some x)
member-place xs x there = (there.0, contains-get xs x there)

-- what stands at a place is a member
pub get-contains : {X : Type 0} (xs : List X) (n : ℕ) (x : X) → slice_get xs n ≡ Some x → Contains xs x
get-contains xs n x e = (n, slice_get_within xs n x e, get_or_from_slice_get xs n x x e)

-- what holds of each member holds of the one at a place
pub all-get : {X : Type 0} (P : X → Type 0) (xs : List X) (n : ℕ) (x : X) → All P xs → slice_get xs n ≡ Some x → P x
all-get P xs n x all e = subst P (get_or_from_slice_get xs n x x e) (all n x (slice_get_within xs n x e))

-- what was found passes the test
pub find-passes : {X : Type 0} (test : X → Bool) (xs : List X) (x : X) → find test xs ≡ Some x → (test x ≡ true) × Contains xs x
find-passes test [] x e = absurd (none-some x e)
find-passes {X = X} test (y ∷ ys) x e =
    elim (cases_Bool (test y)) [
      | inl is ↦
          let same : y ≡ x = same_Some y x (sym (cond-true (test y) (Some y) (find test ys) is) ∙ e) in
          (subst (λ (z : X). test z ≡ true) same is, (0, omega arith, same))
      | inr is ↦
          let more = find-passes test ys x (sym (cond-false (test y) (Some y) (find test ys) is) ∙ e) in
          (more.0, member-tail y ys x more.1)
    ]

-- where a member passes, one is found
pub find-some : {X : Type 0} (test : X → Bool) (xs : List X) (x : X) → Contains xs x → test x ≡ true → (y : X) × (find test xs ≡ Some y)
find-some test xs x member passes = let found = find-member test xs (any-member test xs x member passes) in (found.0, found.3)

-- a number from the first on is one of them
pub range-contains : (a n net : ℕ) → a ≤ net → net < a + n → Contains (range_with_len a n) net
range-contains a n net low high =
    let long = length-range_with_len a n in
    let at = get_or-range_with_len a n (net - a) net (omega arith) in
    (net - a, omega arith, omega arith)

pub contains-range : (a n net : ℕ) → Contains (range_with_len a n) net → (a ≤ net) × (net < a + n)
contains-range a n net h =
    let long = length-range_with_len a n in
    let within : h.0 < n = (let w = h.1 in omega arith) in
    let at = get_or-range_with_len a n h.0 net within in
    let there = h.2 in
    (omega arith, omega arith)

-- a search among what a filter keeps
pub find-filter : {A : Type 0} (test kept : A → Bool) (xs : List A) → find test (filter kept xs) ≡ find (λ (x : A). kept x && test x) xs
find-filter test kept [] = refl
find-filter {A} test kept (x ∷ xs) = by (kept x) (find-filter test kept xs)
  where
    by : (b : Bool) → find test (filter kept xs) ≡ find (λ (y : A). kept y && test y) xs
        → find test (cond b (x ∷ filter kept xs) (filter kept xs)) ≡ cond (b && test x) (Some x) (find (λ (y : A). kept y && test y) xs)
    by true more = ap (cond (test x) (Some x)) more
    by false more = more

-- tests that agree find the same
pub find-same : {A : Type 0} (p q : A → Bool) → ((x : A) → p x ≡ q x) → (xs : List A) → find p xs ≡ find q xs
find-same p q same [] = refl
find-same {A} p q same (x ∷ xs) = ap (λ (b : Bool). cond b (Some x) (find p xs)) (same x) ∙ ap (cond (q x) (Some x)) (find-same p q same xs)

-- what holds of a member holds of the list of it alone
pub All-of_one : {A : Type 0} (P : A → Type 0) (a : A) → P a → All P (a ∷ [])
All-of_one {A} P a first = let none : List A = [] in All-cons P a none first (All-nil P)

-- a member of one of the lists
pub Contains-flat_map : {A B : Type 0} (f : A → List B) (xs : List A) (x : A) (y : B) → Contains xs x → Contains (f x) y → Contains (flat_map f xs) y
Contains-flat_map f [] x y (k, within, is) inner = absurd (omega (arith, within))
Contains-flat_map {A = A} f (a ∷ xs) x y member inner =
    elim (Contains-append_cases (a ∷ []) xs x member) [
      | inl here ↦ Contains-append_left (f a) (flat_map f xs) y (first here)
      | inr later ↦ Contains-append_right (f a) (flat_map f xs) y (Contains-flat_map f xs x y later inner)
    ]
  where
    first : Contains (a ∷ []) x → Contains (f a) y
    first here =
        elim (Contains-push_cases [] a x here) [
          | inl none ↦ absurd (omega (arith, none.1))
          | inr same ↦ subst (λ (z : A). Contains (f z) y) (sym same) inner
        ]

-- from which of the lists a member comes
pub Contains-flat_map_cases : {A B : Type 0} (f : A → List B) (xs : List A) (y : B) → Contains (flat_map f xs) y
    → (x : A) × Contains xs x × Contains (f x) y
Contains-flat_map_cases f [] y member = absurd (omega (arith, member.1))
Contains-flat_map_cases f (a ∷ xs) y member =
    elim (Contains-append_cases (f a) (flat_map f xs) y member) [
      | inl here ↦ (a, (0, omega arith, refl), here)
      | inr later ↦
          let found = Contains-flat_map_cases f xs y later in
          (found.0, Contains-append_right (a ∷ []) xs found.0 found.1, found.2)
    ]

pub member-none : {X : Type 0} (x : X) → Contains [] x → ⊥
member-none x (k, within, is) = omega arith

-- a filter keeps what passes
pub filter-stands : (p : ℕ → Bool) (xs : List ℕ) (k : ℕ) → k < length xs → p (get_or xs k 0) ≡ true → Contains (filter p xs) (get_or xs k 0)
filter-stands p [] k within passes = absurd (omega arith)
filter-stands p (x ∷ xs) zero within passes =
    cond_both (p x) (x ∷ filter p xs) (filter p xs) (λ l. Contains l x)
    (λ t. (0, omega arith, refl))
    (λ f. absurd (both_ways (p x) f passes))
filter-stands p (x ∷ xs) (suc k) within passes =
    let tail = filter-stands p xs k (omega arith) passes in
    cond_both (p x) (x ∷ filter p xs) (filter p xs) (λ l. Contains l (get_or xs k 0))
    (λ t. Contains-append_right (x ∷ []) (filter p xs) (get_or xs k 0) tail)
    (λ f. tail)

-- a test that holds of all members, and of one of them
pub all-member : {X : Type 0} (p : X → Bool) (x : X) (xs : List X) → list_all p xs ≡ true → Contains xs x → p x ≡ true
all-member p x [] all member = absurd (member-none x member)
all-member p x (y ∷ ys) all member =
    let parts = and_parts (p y) (list_all p ys) all in
    elim (member-cases y ys x member) [ inl same ↦ ap p (sym same) ∙ parts.0 | inr later ↦ all-member p x ys parts.1 later ]

pub all-fails : {X : Type 0} (p : X → Bool) (xs : List X) → list_all p xs ≡ false → (x : X) × Contains xs x × (p x ≡ false)
all-fails p [] none = absurd (cc none)
all-fails {X = X} p (y ∷ ys) none = one p y ys (p y) refl none (λ h. all-fails p ys h) where
  one : (p : X → Bool) (y : X) (ys : List X) (b : Bool) → p y ≡ b → (b && list_all p ys) ≡ false
      → (list_all p ys ≡ false → (x : X) × Contains ys x × (p x ≡ false)) → (x : X) × Contains (y ∷ ys) x × (p x ≡ false)
  one p y ys true is none later = let found = later none in (found.0, member-tail y ys found.0 found.1, found.2)
  one p y ys false is none later = (y, member-head y ys, is)

-- members of lists of one and of three
pub member-only : {A : Type 0} (x a : A) → Contains (x ∷ []) a → x ≡ a
member-only {A} x a member =
    let none : List A = [] in
    All-contains (λ (y : A). x ≡ y) (x ∷ none) a (All-cons (λ (y : A). x ≡ y) x none refl (All-nil (λ (y : A). x ≡ y))) member

-- a list with no member is empty
pub empty-none : {X : Type 0} (xs : List X) → ((x : X) → ¬ Contains xs x) → xs ≡ []
empty-none [] none = refl
empty-none (x ∷ xs) none = absurd (none x (0, omega arith, refl))

pub member-same : {X : Type 0} (x y : X) (xs : List X) → x ≡ y → Contains (x ∷ xs) y
member-same x y xs same = (0, omega arith, same)

pub any-cases : {X : Type 0} (test : X → Bool) (xs : List X) → list_any test xs ≡ true → (x : X) × Contains xs x × (test x ≡ true)
any-cases test [] is = let never : ⊥ = cc in absurd never
any-cases {X} test (x ∷ xs) is = cases (test x) refl is (any-cases test xs)
  where
    cases : (t : Bool) → test x ≡ t → (t || list_any test xs) ≡ true → (list_any test xs ≡ true → (y : X) × Contains xs y × (test y ≡ true))
        → (y : X) × Contains (x ∷ xs) y × (test y ≡ true)
    cases true passes is find = (x, member-same x x xs refl, passes)
    cases false not is find = let found : (y : X) × Contains xs y × (test y ≡ true) = find is in (found.0, member-tail x xs found.0 found.1, found.2)

pub member-if : (b : Bool) (line other : ℕ) → Contains (cond b (line ∷ []) []) other → (line ≡ other) × (b ≡ true)
member-if true line other member = (member-only line other member, refl)
member-if false line other member = absurd (member-none other member)

pub each-of_three : {A : Type 0} (P : A → Type 0) (x y z a : A) → P x → P y → P z → Contains (x ∷ (y ∷ (z ∷ []))) a → P a
each-of_three {A} P x y z a first second third member =
    let none : List A = [] in
    All-contains P (x ∷ (y ∷ (z ∷ none))) a (All-cons P x (y ∷ (z ∷ none)) first (All-cons P y (z ∷ none) second (All-cons P z none third (All-nil P)))) member

-- what holds of each rectangle of two lists holds of each of both
pub each-appended : {A : Type 0} (P : A → Type 0) (ds es : List A) → ((d : A) → Contains ds d → P d) → ((d : A) → Contains es d → P d)
    → (d : A) → Contains (ds ++ es) d → P d
each-appended P ds es first second d member =
    elim (Contains-append_cases ds es d member) [
      | inl here ↦ first d here
      | inr later ↦ second d later
    ]

pub all_other : (x : ℕ) (xs : List ℕ) → AllByRecursion (λ y. eqb x y ≡ false) xs → Contains xs x → ⊥
all_other x [] all member = member-none x member
all_other x (y ∷ ys) all member = elim (member-cases y ys x member) [
  | inl same ↦ cc (eq-eqb x y (sym same), all.0)
  | inr later ↦ all_other x ys all.1 later
]

pub other_all : (x : ℕ) (xs : List ℕ) → (Contains xs x → ⊥) → AllByRecursion (λ y. eqb x y ≡ false) xs
other_all x [] none = tt
other_all x (y ∷ ys) none =
    (ne_eqb x y (λ same. none (subst (λ z. Contains (y ∷ ys) z) (sym same) (member-head y ys))), other_all x ys (λ member. none (member-tail y ys x member)))
