use Rattle.std.proofs.Common.{◌≡◌, ◌⊎◌, ◌≤◌, ℕ, max, inl, inr, arith, min, fold, List, [], ◌∷◌, ap, Contains, map, refl, sym, subst, ◌∙◌, ◌-◌, zero, suc, Some, ◌<◌, length, get_or}
use Rattle.std.proofs.lemmas.Bool.{cases_lt}
use Rattle.std_laws.proofs.Members.{member-cases, member-head, member-tail}
use Rattle.std.specs.List.{AllByRecursion}
use Rattle.std.proofs.lemmas.Option.{same_Some}
use Rattle.std.specs.Prelude.{slice_get}

-- the greater of two numbers is one of them
pub max-is : (a b : ℕ) → ((max a b ≡ a) × (b ≤ a)) ⊎ ((max a b ≡ b) × (a ≤ b))
max-is a b = elim (cases_lt a b) [ inl less ↦ inr (omega arith, omega arith) | inr more ↦ inl (omega arith, omega arith) ]

pub min-is : (a b : ℕ) → ((min a b ≡ a) × (a ≤ b)) ⊎ ((min a b ≡ b) × (b ≤ a))
min-is a b = elim (cases_lt a b) [ inl less ↦ inl (omega arith, omega arith) | inr more ↦ inr (omega arith, omega arith) ]

-- no member passes the greatest or the first
pub greatest-first : (first : ℕ) (ns : List ℕ) → first ≤ fold max first ns
greatest-first first [] = omega arith
greatest-first first (n ∷ ns) = let more : max first n ≤ fold max (max first n) ns = greatest-first (max first n) ns in omega arith

pub least-first : (first : ℕ) (ns : List ℕ) → fold min first ns ≤ first
least-first first [] = omega arith
least-first first (n ∷ ns) = let more : fold min (min first n) ns ≤ min first n = least-first (min first n) ns in omega arith

pub greatest-bound : {A : Type 0} (f : A → ℕ) (first : ℕ) (xs : List A) (x : A) → Contains xs x → f x ≤ fold max first (map f xs)
greatest-bound f first [] x member = absurd (omega (arith, member.1))
greatest-bound {A = A} f first (a ∷ xs) x member =
    by (member-cases a xs x member) (greatest-first (max first (f a)) (map f xs)) (λ later. greatest-bound f (max first (f a)) xs x later)
  where
    by : (a ≡ x) ⊎ Contains xs x → max first (f a) ≤ fold max (max first (f a)) (map f xs)
        → (Contains xs x → f x ≤ fold max (max first (f a)) (map f xs)) → f x ≤ fold max (max first (f a)) (map f xs)
    by (inl same) here more = let at : f a ≡ f x = ap f same in omega arith
    by (inr later) here more = more later

pub least-bound : {A : Type 0} (f : A → ℕ) (first : ℕ) (xs : List A) (x : A) → Contains xs x → fold min first (map f xs) ≤ f x
least-bound f first [] x member = absurd (omega (arith, member.1))
least-bound {A = A} f first (a ∷ xs) x member =
    by (member-cases a xs x member) (least-first (min first (f a)) (map f xs)) (λ later. least-bound f (min first (f a)) xs x later)
  where
    by : (a ≡ x) ⊎ Contains xs x → fold min (min first (f a)) (map f xs) ≤ min first (f a)
        → (Contains xs x → fold min (min first (f a)) (map f xs) ≤ f x) → fold min (min first (f a)) (map f xs) ≤ f x
    by (inl same) here more = let at : f a ≡ f x = ap f same in omega arith
    by (inr later) here more = more later

-- a member has them
pub greatest-reached : {A : Type 0} (f : A → ℕ) (a : A) (xs : List A) → (x : A) × Contains (a ∷ xs) x × (f x ≡ fold max (f a) (map f xs))
greatest-reached f a [] = (a, member-head a [], refl)
greatest-reached {A = A} f a (x ∷ xs) = by (max-is (f a) (f x)) (greatest-reached f a xs) (greatest-reached f x xs)
  where
    lift : (y : A) → (a ≡ y) ⊎ Contains xs y → Contains (a ∷ x ∷ xs) y
    lift y (inl same) = subst (λ (z : A). Contains (a ∷ x ∷ xs) z) same (member-head a (x ∷ xs))
    lift y (inr later) = member-tail a (x ∷ xs) y (member-tail x xs y later)

    by : ((max (f a) (f x) ≡ f a) × (f x ≤ f a)) ⊎ ((max (f a) (f x) ≡ f x) × (f a ≤ f x))
        → (y : A) × Contains (a ∷ xs) y × (f y ≡ fold max (f a) (map f xs)) → (y : A) × Contains (x ∷ xs) y × (f y ≡ fold max (f x) (map f xs))
        → (y : A) × Contains (a ∷ x ∷ xs) y × (f y ≡ fold max (max (f a) (f x)) (map f xs))
    by (inl is) old new = (old.0, lift old.0 (member-cases a xs old.0 old.1), old.2 ∙ ap (λ (n : ℕ). fold max n (map f xs)) (sym is.0))
    by (inr is) old new = (new.0, member-tail a (x ∷ xs) new.0 new.1, new.2 ∙ ap (λ (n : ℕ). fold max n (map f xs)) (sym is.0))

pub least-reached : {A : Type 0} (f : A → ℕ) (a : A) (xs : List A) → (x : A) × Contains (a ∷ xs) x × (f x ≡ fold min (f a) (map f xs))
least-reached f a [] = (a, member-head a [], refl)
least-reached {A = A} f a (x ∷ xs) = by (min-is (f a) (f x)) (least-reached f a xs) (least-reached f x xs)
  where
    lift : (y : A) → (a ≡ y) ⊎ Contains xs y → Contains (a ∷ x ∷ xs) y
    lift y (inl same) = subst (λ (z : A). Contains (a ∷ x ∷ xs) z) same (member-head a (x ∷ xs))
    lift y (inr later) = member-tail a (x ∷ xs) y (member-tail x xs y later)

    by : ((min (f a) (f x) ≡ f a) × (f a ≤ f x)) ⊎ ((min (f a) (f x) ≡ f x) × (f x ≤ f a))
        → (y : A) × Contains (a ∷ xs) y × (f y ≡ fold min (f a) (map f xs)) → (y : A) × Contains (x ∷ xs) y × (f y ≡ fold min (f x) (map f xs))
        → (y : A) × Contains (a ∷ x ∷ xs) y × (f y ≡ fold min (min (f a) (f x)) (map f xs))
    by (inl is) old new = (old.0, lift old.0 (member-cases a xs old.0 old.1), old.2 ∙ ap (λ (n : ℕ). fold min n (map f xs)) (sym is.0))
    by (inr is) old new = (new.0, member-tail a (x ∷ xs) new.0 new.1, new.2 ∙ ap (λ (n : ℕ). fold min n (map f xs)) (sym is.0))

-- no member passes the greatest or the least of all
pub greatest-all : {A : Type 0} (f : A → ℕ) (a : A) (xs : List A) (x : A) → Contains (a ∷ xs) x → f x ≤ fold max (f a) (map f xs)
greatest-all f a xs x member = by (member-cases a xs x member)
  where
    by : (a ≡ x) ⊎ Contains xs x → f x ≤ fold max (f a) (map f xs)
    by (inl same) = let first = greatest-first (f a) (map f xs) in let at : f a ≡ f x = ap f same in omega arith
    by (inr later) = greatest-bound f (f a) xs x later

pub least-all : {A : Type 0} (f : A → ℕ) (a : A) (xs : List A) (x : A) → Contains (a ∷ xs) x → fold min (f a) (map f xs) ≤ f x
least-all f a xs x member = by (member-cases a xs x member)
  where
    by : (a ≡ x) ⊎ Contains xs x → fold min (f a) (map f xs) ≤ f x
    by (inl same) = let first = least-first (f a) (map f xs) in let at : f a ≡ f x = ap f same in omega arith
    by (inr later) = least-bound f (f a) xs x later

-- numbers of at most a bound are at most that far apart
pub greatest-few : (most first : ℕ) (ns : List ℕ) → first ≤ most → AllByRecursion (λ (n : ℕ). n ≤ most) ns → fold max first ns ≤ most
greatest-few most first [] few all = few
greatest-few most first (n ∷ ns) few all = greatest-few most (max first n) ns (omega (arith, all.0)) all.1

pub greatest-at : (first : ℕ) (ns : List ℕ) (k n : ℕ) → slice_get ns k ≡ Some n → n ≤ fold max first ns
greatest-at first [] k n at = cc
greatest-at first (m ∷ ns) zero n at =
    let same : m ≡ n = same_Some m n at in
    let more : max first m ≤ fold max (max first m) ns = greatest-first (max first m) ns in
    omega arith
greatest-at first (m ∷ ns) (suc k) n at = greatest-at (max first m) ns k n at

pub greatest-stands : (a : ℕ) (xs : List ℕ) (k : ℕ) → k < length xs → get_or xs k 0 ≤ fold max a xs
greatest-stands a [] k within = absurd (omega arith)
greatest-stands a (x ∷ xs) zero within = let more = greatest-first (max a x) xs in omega arith
greatest-stands a (x ∷ xs) (suc k) within = greatest-stands (max a x) xs k (omega arith)
