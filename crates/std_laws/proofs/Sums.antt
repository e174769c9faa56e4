use Rattle.std.proofs.Common.{◌≡◌, ◌≤◌, ℕ, zero, suc, ◌+◌, ◌-◌, map, sum, refl, arith, ◌*◌, List, [], ◌∷◌, ap, Bool, true, false, cond, length, ◌++◌, ◌<◌, get_or, set}
use Rattle.std.proofs.lemmas.List.Sums.{sum_by-cons, sum_by-append, sum_by-set}
use Rattle.std.specs.List.{range_with_len, AllByRecursion}
use Rattle.std.proofs.lemmas.Bool.Decides.{nat_tests}
use Rattle.std.specs.Prelude.{nat_eq}

pub sum-none : (f : ℕ → ℕ) (a n : ℕ) → ((k : ℕ) → a ≤ k → f k ≡ 0) → sum (map f (range_with_len a n)) ≡ 0
sum-none f a zero none = refl
sum-none f a (suc n) none =
    let rest = sum-none f (a + 1) n (λ k low. none k (omega arith)) in
    omega (arith, rest, none a (omega arith), sum_by-cons (λ (n : ℕ). n) (f a) (map f (range_with_len (a + 1) n)))

-- twice what all nets cost
pub sum-few : (f g : ℕ → ℕ) (most : ℕ) (ns : List ℕ) → ((n : ℕ) → 2 * f n ≤ most * g n) → 2 * sum (map f ns) ≤ most * sum (map g ns)
sum-few f g most [] few = omega arith
sum-few f g most (n ∷ ns) few =
    omega (arith, sum-few f g most ns few, few n, sum_by-cons (λ (n : ℕ). n) (f n) (map f ns), ap (λ (x : ℕ). most * x) (sum_by-cons (λ (n : ℕ). n) (g n) (map g ns)))

pub sum-cons : (n : ℕ) (ns : List ℕ) → sum (n ∷ ns) ≡ n + sum ns
sum-cons n ns = sum_by-cons (λ (n : ℕ). n) n ns

pub sum-zero : {X : Type 0} (xs : List X) → sum (map (λ (x : X). 0) xs) ≡ 0
sum-zero [] = refl
sum-zero {X} (x ∷ xs) = omega (arith, sum-zero xs, sum-cons 0 (map (λ (x : X). 0) xs))

pub sum-both : {X : Type 0} (f g : X → ℕ) (xs : List X) → sum (map (λ (x : X). f x + g x) xs) ≡ sum (map f xs) + sum (map g xs)
sum-both f g [] = omega arith
sum-both {X} f g (x ∷ xs) =
    omega (arith, sum-both f g xs, sum-cons (f x + g x) (map (λ (x : X). f x + g x) xs), sum-cons (f x) (map f xs), sum-cons (g x) (map g xs))

-- a multiple of each number
pub sum-scaled : {X : Type 0} (u : ℕ) (f : X → ℕ) (xs : List X) → sum (map (λ (x : X). u * f x) xs) ≡ u * sum (map f xs)
sum-scaled u f [] = omega arith
sum-scaled {X} u f (x ∷ xs) =
    omega (arith, sum-scaled u f xs, sum-cons (u * f x) (map (λ (x : X). u * f x) xs), ap (λ (n : ℕ). u * n) (sum-cons (f x) (map f xs)))

-- numbers that are each at most another
pub sum-under : {X : Type 0} (P : X → Type 0) (f g : X → ℕ) → ((x : X) → P x → f x ≤ g x) → (xs : List X) → AllByRecursion P xs → sum (map f xs) ≤ sum (map g xs)
sum-under P f g under [] all = omega arith
sum-under P f g under (x ∷ xs) all =
    omega (arith, sum-under P f g under xs all.1, under x all.0, sum-cons (f x) (map f xs), sum-cons (g x) (map g xs))

-- a number that stands at no more than one place
pub sum-once : (x k a n : ℕ) → sum (map (λ (m : ℕ). cond (nat_eq k m) x 0) (range_with_len a n)) ≤ x
sum-once x k a zero = omega arith
sum-once x k a (suc n) = by (sum-once x k (a + 1) n) (nat_eq k a) refl
  where
    off : (m : ℕ) → k ≡ a → a + 1 ≤ m → cond (nat_eq k m) x 0 ≡ zero
    off m same low = let test : nat_eq k m ≡ false = grind (arith, nat_tests) in ap (λ (b : Bool). cond b x 0) test

    by : sum (map (λ (m : ℕ). cond (nat_eq k m) x 0) (range_with_len (a + 1) n)) ≤ x → (b : Bool) → nat_eq k a ≡ b
        → sum (map (λ (m : ℕ). cond (nat_eq k m) x 0) (range_with_len a (suc n))) ≤ x
    by rest true test =
        let same : k ≡ a = grind (arith, nat_tests) in
        let gone = sum-none (λ (m : ℕ). cond (nat_eq k m) x 0) (a + 1) n (λ m low. off m same low) in
        let one : cond (nat_eq k a) x 0 ≡ x = ap (λ (b : Bool). cond b x 0) test in
        omega (arith, gone, one, sum-cons (cond (nat_eq k a) x 0) (map (λ (m : ℕ). cond (nat_eq k m) x 0) (range_with_len (a + 1) n)))
    by rest false test =
        let none : cond (nat_eq k a) x 0 ≡ zero = ap (λ (b : Bool). cond b x 0) test in
        omega (arith, rest, none, sum-cons (cond (nat_eq k a) x 0) (map (λ (m : ℕ). cond (nat_eq k m) x 0) (range_with_len (a + 1) n)))

-- the sum of small numbers
pub sum-small : (most : ℕ) (xs : List ℕ) → AllByRecursion (λ (n : ℕ). n ≤ most) xs → sum xs ≤ most * length xs
sum-small most [] small = omega arith
sum-small most (x ∷ xs) small = let rest = sum-small most xs small.1 in omega (arith, rest, small.0, sum_by-cons (λ (n : ℕ). n) x xs)

pub sum-push : (xs : List ℕ) (n : ℕ) → sum (xs ++ n ∷ []) ≡ sum xs + n
sum-push xs n = omega (arith, sum_by-append (λ (n : ℕ). n) xs (n ∷ []))

-- the sum after one number is written
pub sum-set : (xs : List ℕ) (i n old : ℕ) → i < length xs → get_or xs i old ≡ old → sum (set xs i n) ≡ (sum xs - old) + n
sum-set xs i n old within is =
    let all = sum_by-set (λ (n : ℕ). n) xs i n old within in
    let less = part xs i old within in
    omega (arith, all, is, less)
  where
    part : (xs : List ℕ) (i d : ℕ) → i < length xs → get_or xs i d ≤ sum xs
    part [] i d within = absurd (omega arith)
    part (x ∷ xs) zero d within = omega (arith, sum_by-cons (λ (n : ℕ). n) x xs)
    part (x ∷ xs) (suc i) d within = let rest = part xs i d (omega arith) in omega (arith, rest, sum_by-cons (λ (n : ℕ). n) x xs)
