use Rattle.std.proofs.Common.{◌≡◌, ℕ, zero, suc, List, [], ◌∷◌, Bool, true, false, ◌||◌, Some, refl, ap, subst, length, cond, None, nat_lt, position, ◌≤◌, not, ◌+◌, take, arith, ◌≢◌, ◌++◌, map, ◌&&◌, filter, ◌∙◌, inl, inr, ◌<◌, eqb, get_or, sym, MatchResult, Ok, Err, Result, is_ok, eqb-true, eq-eqb, one-add}
use Rattle.std.specs.List.{list_any, slice_get, position_or_len, list_all, prefix_len, position_from}
use Rattle.std.specs.Str.{bytes_eq}
use Rattle.std_laws.proofs.Bytes.{bytes_same}
use Rattle.std.proofs.lemmas.List.Sums.{prefix_len-le-length}
use Rattle.std_laws.proofs.Tests.{nat_lt-end}
use Rattle.std.proofs.lemmas.Bool.{and_parts, and_from, cases_lt, false_from_ne_true, both_ways}
use Rattle.std.proofs.lemmas.List.{get_or_default}
use Rattle.std_laws.proofs.Members.{any-cases, any-member}
use Rattle.std.specs.Prelude.{unwrap_or}

-- a name that stands among names is among them
pub any-get : (names : List (List ℕ)) (n : ℕ) (w : List ℕ) → slice_get names n ≡ Some w → list_any (bytes_eq w) names ≡ true
any-get [] n w h = cc
any-get (x ∷ xs) zero w h = ap (λ (b : Bool). b || list_any (bytes_eq w) xs) (subst (λ u. bytes_eq w u ≡ true) (same h) (bytes_same w))
  where
    same : Some x ≡ Some w → w ≡ x
    same e = cc
any-get (x ∷ xs) (suc n) w h = by (bytes_eq w x) (any-get xs n w h)
  where
    by : (b : Bool) → list_any (bytes_eq w) xs ≡ true → (b || list_any (bytes_eq w) xs) ≡ true
    by true more = refl
    by false more = more

-- a place that was found is the first
pub first-place : {X : Type 0} (p : X → Bool) (xs : List X) (n : ℕ) → position p xs ≡ Some n → position_or_len p xs ≡ n
first-place p xs n = by (nat_lt (position_or_len p xs) (length xs))
  where
    by : (b : Bool) → cond b (Some (position_or_len p xs)) None ≡ Some n → position_or_len p xs ≡ n
    by true h = cc
    by false h = cc

-- where no place was found, it is the number of names
pub no-place : {X : Type 0} (p : X → Bool) (xs : List X) → position p xs ≡ None → position_or_len p xs ≡ length xs
no-place p xs = by (nat_lt (position_or_len p xs) (length xs)) refl
  where
    by : (b : Bool) → nat_lt (position_or_len p xs) (length xs) ≡ b → cond b (Some (position_or_len p xs)) None ≡ None → position_or_len p xs ≡ length xs
    by true is h = cc
    by false is h = let few : position_or_len p xs ≤ length xs = prefix_len-le-length (λ x. not (p x)) xs in nat_lt-end (position_or_len p xs) (length xs) is few

pub prefix-passes : (p : ℕ → Bool) (bytes : List ℕ) → list_all p (take (prefix_len p bytes) bytes) ≡ true
prefix-passes p [] = refl
prefix-passes p (c ∷ cs) = by (p c) refl (prefix-passes p cs)
  where
    by : (b : Bool) → p c ≡ b → list_all p (take (prefix_len p cs) cs) ≡ true → list_all p (take (cond b (1 + prefix_len p cs) 0) (c ∷ cs)) ≡ true
    by true here others =
        let one : 1 + prefix_len p cs ≡ suc (prefix_len p cs) = omega arith in
        rw (one, here, others) refl
    by false here others = refl

pub all-reached : (p : ℕ → Bool) (bytes : List ℕ) → prefix_len p bytes ≡ length bytes → list_all p bytes ≡ true
all-reached p [] reached = refl
all-reached p (c ∷ cs) reached = by (p c) reached (all-reached p cs)
  where
    by : (b : Bool) → cond b (1 + prefix_len p cs) 0 ≡ length (c ∷ cs) → (prefix_len p cs ≡ length cs → list_all p cs ≡ true) → (b && list_all p cs) ≡ true
    by true here others = others (omega arith)
    by false here others = absurd (omega arith)

pub not-all-reached : (p : ℕ → Bool) (bytes : List ℕ) → prefix_len p bytes ≢ length bytes → list_all p bytes ≡ false
not-all-reached p [] reached = absurd (reached refl)
not-all-reached p (c ∷ cs) reached = by (p c) reached (not-all-reached p cs)
  where
    by : (b : Bool) → cond b (1 + prefix_len p cs) 0 ≢ length (c ∷ cs) → (prefix_len p cs ≢ length cs → list_all p cs ≡ false) → (b && list_all p cs) ≡ false
    by true here others = others (λ same. here (omega arith))
    by false here others = refl

-- a weaker test
pub list_all-weaker : (p q : ℕ → Bool) → ((c : ℕ) → p c ≡ true → q c ≡ true) → (xs : List ℕ) → list_all p xs ≡ true → list_all q xs ≡ true
list_all-weaker p q weaker [] every = refl
list_all-weaker p q weaker (x ∷ xs) every =
    let parts : (p x ≡ true) × (list_all p xs ≡ true) = and_parts (p x) (list_all p xs) every in
    and_from (q x) (list_all q xs) (weaker x parts.0) (list_all-weaker p q weaker xs parts.1)

pub list_all-joined : (p : ℕ → Bool) (xs ys : List ℕ) → list_all p xs ≡ true → list_all p ys ≡ true → list_all p (xs ++ ys) ≡ true
list_all-joined p [] ys first second = second
list_all-joined p (x ∷ xs) ys first second =
    let parts : (p x ≡ true) × (list_all p xs ≡ true) = and_parts (p x) (list_all p xs) first in
    and_from (p x) (list_all p (xs ++ ys)) parts.0 (list_all-joined p xs ys parts.1 second)

-- a test of what a map gives
pub any-map : {X Y : Type 0} (f : X → Y) (p : Y → Bool) (xs : List X) → list_any p (map f xs) ≡ list_any (λ x. p (f x)) xs
any-map f p [] = refl
any-map f p (x ∷ xs) = ap (λ b. p (f x) || b) (any-map f p xs)

-- a test of what a filter leaves
pub any-filter : {X : Type 0} (p q : X → Bool) (xs : List X) → list_any p (filter q xs) ≡ list_any (λ x. p x && q x) xs
any-filter p q [] = refl
any-filter p q (x ∷ xs) = step (p x) (q x) p x (filter q xs) (list_any (λ x. p x && q x) xs) refl (any-filter p q xs) where
  step : {X : Type 0} (b c : Bool) (p : X → Bool) (x : X) (ys : List X) (rest : Bool) → p x ≡ b → list_any p ys ≡ rest
      → list_any p (cond c (x ∷ ys) ys) ≡ ((b && c) || rest)
  step true true p x ys rest is same = ap (λ z. z || list_any p ys) is
  step false true p x ys rest is same = ap (λ z. z || list_any p ys) is ∙ same
  step true false p x ys rest is same = same
  step false false p x ys rest is same = same

-- what a search of sorted numbers finds
pub found-any : (xs : List ℕ) (x : ℕ) (r : Result ℕ ℕ)
    → MatchResult r (λ i. (i < length xs) × (get_or xs i 0 ≡ x))
    (λ i. (i ≤ length xs) × ((k : ℕ) → k < i → get_or xs k 0 < x) × ((k : ℕ) → i ≤ k → k < length xs → x < get_or xs k 0))
    → is_ok r ≡ list_any (λ n. eqb n x) xs
found-any xs x (Ok i) found =
    sym (any-member (λ n. eqb n x) xs x (i, found.0, get_or_default xs i x 0 found.0 ∙ found.1) (eq-eqb x x refl))
found-any xs x (Err i) found = sym (false_from_ne_true (list_any (λ n. eqb n x) xs) none) where
  none : list_any (λ n. eqb n x) xs ≡ true → ⊥
  none some =
      let member = any-cases (λ n. eqb n x) xs some in
      let same : member.0 ≡ x = eqb-true member.0 x member.2 in
      let k = member.1.0 in
      let at : get_or xs k 0 ≡ x = get_or_default xs k 0 member.0 member.1.1 ∙ member.1.2 ∙ same in
      elim (cases_lt k i) [
        | inl before ↦ let less = found.1 k before in omega (arith, less, at)
        | inr behind ↦ let more = found.2 k behind member.1.1 in omega (arith, more, at)
      ]

-- tests that agree on each element
pub any-agree : {X Y : Type 0} (h : X → Y) (p : Y → Bool) (q : X → Bool) (xs : List X) → ((x : X) → p (h x) ≡ q x) → list_any p (map h xs) ≡ list_any q xs
any-agree h p q [] same = refl
any-agree h p q (x ∷ xs) same = λ i. same x i || any-agree h p q xs same i

-- a member that passes a test: the first that passes stands at its place or before
pub first-at : {A : Type 0} (p : A → Bool) (xs : List A) (n : ℕ) (x : A) → slice_get xs n ≡ Some x → p x ≡ true
    → (y : A) × (slice_get xs (position_or_len p xs) ≡ Some y) × (p y ≡ true) × (position_or_len p xs ≤ n)
first-at p [] n x is passes = let never : ⊥ = cc in absurd never
first-at {A} p (z ∷ zs) n x is passes = by n (p z) refl is (λ m at. first-at p zs m x at passes)
  where
    one-more : (m : ℕ) → 1 + m ≡ suc m
    one-more m = omega arith

    by : (n : ℕ) (t : Bool) → p z ≡ t → slice_get (z ∷ zs) n ≡ Some x
        → ((m : ℕ) → slice_get zs m ≡ Some x → (y : A) × (slice_get zs (position_or_len p zs) ≡ Some y) × (p y ≡ true) × (position_or_len p zs ≤ m))
        → (y : A) × (slice_get (z ∷ zs) (cond (not t) (1 + position_or_len p zs) 0) ≡ Some y) × (p y ≡ true) × (cond (not t) (1 + position_or_len p zs) 0 ≤ n)
    by n true here is more = (z, refl, here, omega arith)
    by zero false here is more = let same : z ≡ x = cc in absurd (both_ways (p x) (ap p (sym same) ∙ here) passes)
    by (suc m) false here is more =
        let found = more m is in
        (found.0, ap (slice_get (z ∷ zs)) (one-more (position_or_len p zs)) ∙ found.1, found.2, (let low = found.3 in omega arith))

-- whether one passes before a place
pub before-first : {A : Type 0} (p : A → Bool) (front rest : List A) → list_any p front ≡ true → position_or_len p (front ++ rest) < length front
before-first p [] rest any = absurd (both_ways false refl any)
before-first p (x ∷ xs) rest any = by (p x) any (before-first p xs rest)
  where
    by : (t : Bool) → (t || list_any p xs) ≡ true → (list_any p xs ≡ true → position_or_len p (xs ++ rest) < length xs)
        → cond (not t) (1 + position_or_len p (xs ++ rest)) 0 < suc (length xs)
    by true any more = omega arith
    by false any more = let less = more any in omega arith

pub none-before : {A : Type 0} (p : A → Bool) (front rest : List A) → list_any p front ≡ false → length front ≤ position_or_len p (front ++ rest)
none-before p [] rest none = omega arith
none-before p (x ∷ xs) rest none = by (p x) none (none-before p xs rest)
  where
    by : (t : Bool) → (t || list_any p xs) ≡ false → (list_any p xs ≡ false → length xs ≤ position_or_len p (xs ++ rest))
        → suc (length xs) ≤ cond (not t) (1 + position_or_len p (xs ++ rest)) 0
    by true none more = absurd (both_ways true none refl)
    by false none more = let less = more none in omega arith

-- the place of the first image that passes a test
pub place-map : {A B : Type 0} (f : A → B) (p : B → Bool) (xs : List A) → position_or_len p (map f xs) ≡ position_or_len (λ x. p (f x)) xs
place-map f p [] = refl
place-map f p (x ∷ xs) = ap (λ (n : ℕ). cond (not (p (f x))) (1 + n) 0) (place-map f p xs)

-- tests that agree on the members find the same place
pub place-same : {A : Type 0} (p q : A → Bool) (xs : List A) → ((i : ℕ) (x : A) → slice_get xs i ≡ Some x → p x ≡ q x) → position_or_len p xs ≡ position_or_len q xs
place-same p q [] same = refl
place-same p q (x ∷ xs) same =
    ap (λ t. cond (not t) (1 + position_or_len p xs) 0) (same 0 x refl)
    ∙ ap (λ (n : ℕ). cond (not (q x)) (1 + n) 0) (place-same p q xs (λ i y is. same (suc i) y is))

pub position-cons : (p : ℕ → Bool) (x : ℕ) (ls : List ℕ) → position_or_len p (x ∷ ls) ≡ cond (p x) 0 (suc (position_or_len p ls))
position-cons p x ls = by (p x)
  where
    next : 1 + position_or_len p ls ≡ suc (position_or_len p ls)
    next = omega arith

    by : (b : Bool) → cond (not b) (1 + position_or_len p ls) 0 ≡ cond b 0 (suc (position_or_len p ls))
    by true = refl
    by false = next

pub position-le : (p : ℕ → Bool) (ls : List ℕ) → position_or_len p ls ≤ length ls
position-le p ls = prefix_len-le-length (λ x. not (p x)) ls

-- one more byte that passes
pub prefix-on : (p : ℕ → Bool) (c : ℕ) (cs : List ℕ) → p c ≡ true → prefix_len p (c ∷ cs) ≡ suc (prefix_len p cs)
prefix-on p c cs is = rw is (one-add (prefix_len p cs))

-- a byte that does not pass
pub prefix-off : (p : ℕ → Bool) (c : ℕ) (cs : List ℕ) → p c ≡ false → prefix_len p (c ∷ cs) ≡ 0
prefix-off p c cs is = rw is refl

-- the place of a member that passes is the one that is found before it, or its own
pub position-front : {A : Type 0} (p : A → Bool) (n : ℕ) (xs rest : List A) (y : A) → p y ≡ true
    → unwrap_or (position_from p n xs) (n + length xs) ≡ n + position_or_len p (xs ++ y ∷ rest)
position-front p n [] rest y passes = ap (λ t. n + cond (not t) (1 + position_or_len p rest) 0) (sym passes)
position-front p n (x ∷ xs) rest y passes = by (p x) (position-front p (n + 1) xs rest y passes)
  where
    by : (t : Bool) → unwrap_or (position_from p (n + 1) xs) (n + 1 + length xs) ≡ n + 1 + position_or_len p (xs ++ y ∷ rest)
        → unwrap_or (cond t (Some n) (position_from p (n + 1) xs)) (n + suc (length xs)) ≡ n + cond (not t) (1 + position_or_len p (xs ++ y ∷ rest)) 0
    by true later = let none : n ≡ n + 0 = omega arith in none
    by false later =
        let more : n + 1 + length xs ≡ n + suc (length xs) = omega arith in
        let one : n + 1 + position_or_len p (xs ++ y ∷ rest) ≡ n + (1 + position_or_len p (xs ++ y ∷ rest)) = omega arith in
        ap (unwrap_or (position_from p (n + 1) xs)) (sym more) ∙ later ∙ one
