use Rattle.std.proofs.Common.{◌≡◌, ◌<◌, ℕ, zero, suc, ◌+◌, ◌-◌, map, Some, ap, ◌∙◌, arith, sym, ◌≤◌, List, ◌∷◌, ◌++◌, false, [], refl, Contains, length, subst, get_or}
use Rattle.std.specs.List.{range_with_len, AllByRecursion, IsDistinct}
use Rattle.std.specs.Prelude.{slice_get, nat_eq, fold}
use Rattle.std.proofs.lemmas.Option.{none-some, same_Some}
use Rattle.std_laws.proofs.Every.{every-weaker}
use Rattle.std.proofs.lemmas.Bool.Decides.{nat_tests}
use Rattle.std.proofs.lemmas.List.FromFn.{get_or-range_with_len, length-range_with_len, map-range_with_len_more}
use Rattle.std.specs.List.Sorted.{IsStrictlyIncreasing}
use Rattle.std.proofs.lemmas.List.Sums.{fold-append}
use Rattle.std.proofs.lemmas.List.Elements.{Contains-get_or}
use Rattle.std.proofs.lemmas.List.{get_or_default}

-- what stands at a place of the images of numbers in order
pub image-at : {A : Type 0} (f : ℕ → A) (start count k : ℕ) → k < count → slice_get (map f (range_with_len start count)) k ≡ Some (f (start + k))
image-at f start zero k within = absurd (omega arith)
image-at f start (suc count) zero within = ap (λ (n : ℕ). Some (f n)) (let same : start ≡ start + 0 = omega arith in same)
image-at f start (suc count) (suc k) within =
    image-at f (start + 1) count k (omega arith) ∙ ap (λ (n : ℕ). Some (f n)) (let same : start + 1 + k ≡ start + suc k = omega arith in same)

-- nothing stands past the images of numbers in order
pub image-within : {A : Type 0} (f : ℕ → A) (start count k : ℕ) (a : A) → slice_get (map f (range_with_len start count)) k ≡ Some a → k < count
image-within f start zero k a is = absurd (none-some a is)
image-within f start (suc count) zero a is = omega arith
image-within f start (suc count) (suc k) a is = let less = image-within f (start + 1) count k a is in omega arith

pub image-of : {A : Type 0} (f : ℕ → A) (count k : ℕ) (a : A) → slice_get (map f (range_with_len 0 count)) k ≡ Some a → f k ≡ a
image-of f count k a is =
    same_Some (f k) a
    (ap (λ (n : ℕ). Some (f n)) (let same : k ≡ 0 + k = omega arith in same) ∙ sym (image-at f 0 count k (image-within f 0 count k a is)) ∙ is)

-- numbers up to one and those from it on
pub range-split : (a k n : ℕ) → k ≤ n → range_with_len a k ++ range_with_len (a + k) (n - k) ≡ range_with_len a n
range-split a zero n within = let at : a + 0 ≡ a = omega arith in let all : n - 0 ≡ n = omega arith in rw (at, all)
range-split a (suc k) zero within = absurd (omega arith)
range-split a (suc k) (suc n) within =
    let at : a + suc k ≡ (a + 1) + k = omega arith in
    let rest : suc n - suc k ≡ n - k = omega arith in
    ap (λ (l : List ℕ). a ∷ l)
    (ap (λ (b : ℕ). range_with_len (a + 1) k ++ range_with_len b (suc n - suc k)) at ∙ ap (λ (m : ℕ). range_with_len (a + 1) k ++ range_with_len ((a + 1) + k) m) rest
    ∙ range-split (a + 1) k n (omega arith))

-- numbers from a on and below a + n
pub range-bounds : (a n : ℕ) → AllByRecursion (λ (k : ℕ). (a ≤ k) × (k < a + n)) (range_with_len a n)
range-bounds a zero = tt
range-bounds a (suc n) = (
  (omega arith, omega arith),
  every-weaker (λ (k : ℕ). (a + 1 ≤ k) × (k < (a + 1) + n)) (λ (k : ℕ). (a ≤ k) × (k < a + suc n)) (λ k h. (lower k h.0, upper k h.1)) (range_with_len (a + 1) n)
      (range-bounds (a + 1) n),
)
  where
    lower : (k : ℕ) → a + 1 ≤ k → a ≤ k
    lower k h = omega arith

    upper : (k : ℕ) → k < (a + 1) + n → k < a + suc n
    upper k h = omega arith

-- no two of them are equal
pub range-distinct : (a n : ℕ) → IsDistinct nat_eq (range_with_len a n)
unfolding IsDistinct
range-distinct a zero = tt
range-distinct a (suc n) = (
  every-weaker (λ (k : ℕ). (a + 1 ≤ k) × (k < (a + 1) + n)) (λ (k : ℕ). nat_eq a k ≡ false) (λ k h. apart k h.0) (range_with_len (a + 1) n) (range-bounds (a + 1) n),
  range-distinct (a + 1) n,
)
  where
    apart : (k : ℕ) → a + 1 ≤ k → nat_eq a k ≡ false
    apart k h = grind (arith, nat_tests)

-- numbers one after another increase
pub range-increasing : (a n : ℕ) → IsStrictlyIncreasing (range_with_len a n)
range-increasing a n k within =
    let long = length-range_with_len a n in
    let first = get_or-range_with_len a n k 0 (omega arith) in
    let second = get_or-range_with_len a n (k + 1) 0 (omega arith) in
    omega arith

pub range-more : (a n : ℕ) → range_with_len a (n + 1) ≡ range_with_len a n ++ (a + n) ∷ []
range-more a zero = let same : a ≡ a + 0 = omega arith in ap (λ k. k ∷ []) same
range-more a (suc n) =
    let step : a + 1 + n ≡ a + suc n = omega arith in
    let one : suc n + 1 ≡ suc (n + 1) = omega arith in
    ap (range_with_len a) one ∙ ap (λ t. a ∷ t) (range-more (a + 1) n) ∙ ap (λ k. a ∷ (range_with_len (a + 1) n ++ k ∷ [])) step

pub numbers-more : (n : ℕ) → range_with_len 0 (n + 1) ≡ range_with_len 0 n ++ n ∷ []
numbers-more n =
    let same : 0 + n ≡ n = omega arith in
    range-more 0 n ∙ ap (λ k. range_with_len 0 n ++ k ∷ []) same

pub range-append : (a n k : ℕ) → range_with_len a (n + k) ≡ range_with_len a n ++ range_with_len (a + n) k
range-append a zero k =
    let e : a + 0 ≡ a = omega arith in
    let f : 0 + k ≡ k = omega arith in
    rw (e, f) refl
range-append a (suc n) k =
    let e : suc n + k ≡ suc (n + k) = omega arith in
    let f : a + 1 + n ≡ a + suc n = omega arith in
    rw e (ap (λ (xs : List ℕ). a ∷ xs) (range-append (a + 1) n k ∙ ap (λ (j : ℕ). range_with_len (a + 1) n ++ range_with_len j k) f))

pub fold-more : {B : Type 0} (f : B → ℕ → B) (x : B) (a n : ℕ) → fold f x (range_with_len a (n + 1)) ≡ f (fold f x (range_with_len a n)) (a + n)
fold-more f x a n = ap (λ (xs : List ℕ). fold f x xs) (range-more a n) ∙ fold-append f x (range_with_len a n) ((a + n) ∷ [])

-- folds of functions that agree at so many numbers
pub fold-same : {B : Type 0} (f g : B → ℕ → B) (x : B) (a n : ℕ) → ((y : B) (k : ℕ) → k < n → f y (a + k) ≡ g y (a + k)) → fold f x (range_with_len a n) ≡ fold g x (range_with_len a n)
fold-same {B = B} f g x a zero same = refl
fold-same {B = B} f g x a (suc n) same =
    let e : a + 0 ≡ a = omega arith in
    let here : f x a ≡ g x a = rw e at (same x 0 (omega arith)) in
    let rest = λ (y : B) (k : ℕ) (less : k < n). (let shift : a + suc k ≡ a + 1 + k = omega arith in rw shift at (same y (suc k) (omega arith))) in
    ap (λ (y : B). fold f y (range_with_len (a + 1) n)) here ∙ fold-same f g (g x a) (a + 1) n rest

-- the numbers below a bound are those of its range
pub range-has : (n k : ℕ) → k < n → Contains (range_with_len 0 n) k
range-has n k within = (k, omega (arith, length-range_with_len 0 n), get_or-range_with_len 0 n k k within ∙ omega arith)

pub range-below : (n k : ℕ) → Contains (range_with_len 0 n) k → k < n
range-below n k member =
    let place : ℕ = member.0 in
    let below : place < length (range_with_len 0 n) = member.1 in
    let inside : place < n = omega (arith, length-range_with_len 0 n) in
    let at : 0 + place ≡ k = sym (get_or-range_with_len 0 n place k inside) ∙ member.2 in
    omega arith

pub range-has-from-one : (n net : ℕ) → 0 < net → net ≤ n → Contains (range_with_len 1 n) net
range-has-from-one n net some few =
    let at : get_or (range_with_len 1 n) (net - 1) 0 ≡ net = (let here = get_or-range_with_len 1 n (net - 1) 0 (omega arith) in omega arith) in
    subst (Contains (range_with_len 1 n)) at (Contains-get_or (range_with_len 1 n) (net - 1) 0 (let many = length-range_with_len 1 n in omega arith))

pub range-some : (n net : ℕ) → Contains (range_with_len 1 n) net → 0 < net
range-some n net member =
    let many = length-range_with_len 1 n in
    let there : get_or (range_with_len 1 n) member.0 0 ≡ net = get_or_default (range_with_len 1 n) member.0 0 net member.1 ∙ member.2 in
    let here = get_or-range_with_len 1 n member.0 0 (let less = member.1 in omega arith) in omega arith

-- one image more
pub image-more : {A : Type 0} (f : ℕ → A) (first next : ℕ) → first ≤ next → map f (range_with_len first (next + 1 - first)) ≡ map f (range_with_len first (next - first)) ++ f next ∷ []
image-more f first next within = rw (let more : next + 1 - first ≡ (next - first) + 1 = omega arith in more) (map-range_with_len_more f first (next - first) next (omega arith))
