use Rattle.std.proofs.Common.{ℕ, List, eqb, count_by, ◌≡◌, ◌+◌, ◌-◌, ◌∷◌, cond, ap, ◌∙◌, ◌≤◌, inl, inr, arith, ◌<◌, zero, suc, [], get_or, length, take, Bool, true, refl, subst, false, sym, filter, ◌||◌, not, ◌==◌, map, Contains, set}
use Rattle.std.proofs.lemmas.Bool.{cond-true, eq-eqb, cond-false, ne_eqb, cases_eq, cases_order}
use Rattle.std.proofs.lemmas.List.Sums.{sum_by-cons, count_by_more_yes, count_by_more_no}
use Rattle.std.proofs.lemmas.List.{take_all, get_or-set_same, get_or-set_other}
use Rattle.std.specs.List.{list_any}
use Rattle.std.proofs.lemmas.Bool.Decides.{nat_tests}
use Rattle.std_laws.proofs.Members.{member-head, member-tail, member-cases}

-- how often a number stands in a list
abbrev pub times : ℕ → List ℕ → ℕ
times n xs = count_by (λ m. eqb m n) xs

-- a number of its first place counts once more
times-same : (n x : ℕ) (xs : List ℕ) → x ≡ n → times n (x ∷ xs) ≡ 1 + times n xs
times-same n x xs e =
    sum_by-cons (λ m. cond (eqb m n) 1 0) x xs ∙ ap (λ (k : ℕ). k + times n xs) (cond-true (eqb x n) 1 0 (eq-eqb x n e))

times-other : (n x : ℕ) (xs : List ℕ) → (x ≡ n → ⊥) → times n (x ∷ xs) ≡ 0 + times n xs
times-other n x xs e =
    sum_by-cons (λ m. cond (eqb m n) 1 0) x xs ∙ ap (λ (k : ℕ). k + times n xs) (cond-false (eqb x n) 1 0 (ne_eqb x n e))

times-more : (n x : ℕ) (xs : List ℕ) → times n xs ≤ times n (x ∷ xs)
times-more n x xs =
    elim (cases_eq x n) [
      | inl e ↦ let h = times-same n x xs e in omega arith
      | inr e ↦ let h = times-other n x xs e in omega arith
    ]

-- a number that stands at a place counts
pub times-one : (n : ℕ) (xs : List ℕ) (i : ℕ) → 0 < n → get_or xs i 0 ≡ n → 1 ≤ times n xs
times-one n [] i some is = absurd (omega arith)
times-one n (x ∷ xs) zero some is = let h = times-same n x xs is in omega arith
times-one n (x ∷ xs) (suc i) some is = let h = times-more n x xs in let more = times-one n xs i some is in omega arith

-- a number that stands at two places of a list counts twice
pub times-two : (n : ℕ) (xs : List ℕ) (i j : ℕ) → 0 < n → i < j → get_or xs i 0 ≡ n → get_or xs j 0 ≡ n → 2 ≤ times n xs
times-two n [] i j some before first second = absurd (omega arith)
times-two n (x ∷ xs) i zero some before first second = absurd (omega arith)
times-two n (x ∷ xs) zero (suc j) some before first second =
    let h = times-same n x xs first in
    let more = times-one n xs j some second in
    omega arith
times-two n (x ∷ xs) (suc i) (suc j) some before first second =
    let h = times-more n x xs in
    let more = times-two n xs i j some (omega arith) first second in
    omega arith

-- a number that counts stands at a place
pub times-place : (n : ℕ) (xs : List ℕ) → 1 ≤ times n xs → (i : ℕ) × (get_or xs i 0 ≡ n)
times-place n [] h = absurd (omega arith)
times-place n (x ∷ xs) h =
    elim (cases_eq x n) [
      | inl e ↦ (0, e)
      | inr e ↦
          let other = times-other n x xs e in
          let more = times-place n xs (omega arith) in
          (suc more.0, more.1)
    ]

-- a number at two different places of one list counts twice
pub times-apart : (n : ℕ) (xs : List ℕ) (i j : ℕ) → 0 < n → (i ≡ j → ⊥) → get_or xs i 0 ≡ n → get_or xs j 0 ≡ n → 2 ≤ times n xs
times-apart n xs i j some differ first second =
    elim (cases_order i j) [
      | inl same ↦ absurd (differ same)
      | inr order ↦ elim order [
        | inl before ↦ times-two n xs i j some before first second
        | inr behind ↦ times-two n xs j i some behind second first
      ]
    ]

-- where a test holds of the first numbers, it counts them
counted-first : (p : ℕ → Bool) (xs : List ℕ) (i m : ℕ) → i ≤ length xs → m ≤ i
    → ((k d : ℕ) → 0 ≤ k → k < i → p (get_or xs k d) ≡ true) → count_by p (take m xs) ≡ m
counted-first p xs i zero within below before = refl
counted-first p xs i (suc m) within below before =
    let next : m + 1 ≡ suc m = omega arith in
    let here : p (get_or xs m 0) ≡ true = before m 0 (omega arith) (omega arith) in
    let more : count_by p (take (m + 1) xs) ≡ count_by p (take m xs) + 1 = count_by_more_yes p xs m 0 (omega arith) here in
    let first : count_by p (take m xs) ≡ m = counted-first p xs i m within (omega arith) before in
    subst (λ (n : ℕ). count_by p (take n xs) ≡ n) next (more ∙ ap (λ (n : ℕ). n + 1) first)

-- and where it does not hold of the others, it counts no more
counted-more : (p : ℕ → Bool) (xs : List ℕ) (i m : ℕ) → i + m ≤ length xs
    → ((k d : ℕ) → 0 ≤ k → k < i → p (get_or xs k d) ≡ true) → ((k d : ℕ) → i ≤ k → k < length xs → p (get_or xs k d) ≡ false)
    → count_by p (take (i + m) xs) ≡ i
counted-more p xs i zero within before behind =
    let same : i ≡ i + 0 = omega arith in
    subst (λ (n : ℕ). count_by p (take n xs) ≡ i) same (counted-first p xs i i (omega arith) (omega arith) before)
counted-more p xs i (suc m) within before behind =
    let next : (i + m) + 1 ≡ i + suc m = omega arith in
    let here : p (get_or xs (i + m) 0) ≡ false = behind (i + m) 0 (omega arith) (omega arith) in
    let more : count_by p (take ((i + m) + 1) xs) ≡ count_by p (take (i + m) xs) = count_by_more_no p xs (i + m) 0 (omega arith) here in
    subst (λ (n : ℕ). count_by p (take n xs) ≡ i) next (more ∙ counted-more p xs i m (omega arith) before behind)

-- where a test holds of the first numbers and not of the others, it counts the first
pub counted : (p : ℕ → Bool) (xs : List ℕ) (i : ℕ) → i ≤ length xs
    → ((k d : ℕ) → 0 ≤ k → k < i → p (get_or xs k d) ≡ true) → ((k d : ℕ) → i ≤ k → k < length xs → p (get_or xs k d) ≡ false)
    → count_by p xs ≡ i
counted p xs i within before behind =
    let all : length xs ≡ i + (length xs - i) = omega arith in
    let same : take (i + (length xs - i)) xs ≡ xs = take_all _ xs (omega arith) in
    ap (count_by p) (sym same) ∙ counted-more p xs i (length xs - i) (omega arith) before behind

-- a filter keeps no more than there are
pub filter-short : {A : Type 0} (q : A → Bool) (xs : List A) → length (filter q xs) ≤ length xs
filter-short q [] = omega arith
filter-short {A} q (x ∷ xs) = by (q x) (filter-short q xs)
  where
    by : (b : Bool) → length (filter q xs) ≤ length xs → length (cond b (x ∷ filter q xs) (filter q xs)) ≤ length (x ∷ xs)
    by true h = omega arith
    by false h = omega arith

-- where some pass a test, those that do not are fewer
any-fewer : {A : Type 0} (p : A → Bool) (xs : List A) → list_any p xs ≡ true → length (filter (λ (x : A). not (p x)) xs) + 1 ≤ length xs
any-fewer p [] any = cc
any-fewer {A} p (x ∷ xs) any = by (p x) any (any-fewer p xs)
  where
    by : (b : Bool) → (b || list_any p xs) ≡ true → (list_any p xs ≡ true → length (filter (λ (y : A). not (p y)) xs) + 1 ≤ length xs)
        → length (cond (not b) (x ∷ filter (λ (y : A). not (p y)) xs) (filter (λ (y : A). not (p y)) xs)) + 1 ≤ length (x ∷ xs)
    by true any h = let short : length (filter (λ (y : A). not (p y)) xs) ≤ length xs = filter-short (λ (y : A). not (p y)) xs in omega arith
    by false any h = let rest : length (filter (λ (y : A). not (p y)) xs) + 1 ≤ length xs = h any in omega arith

-- what passes is among what is kept, where what passes is kept
any-kept : {A : Type 0} (p q : A → Bool) (xs : List A) → ((x : A) → p x ≡ true → q x ≡ true) → list_any p (filter q xs) ≡ list_any p xs
any-kept p q [] keeps = refl
any-kept {A} p q (x ∷ xs) keeps = by (q x) (p x) refl refl (any-kept p q xs keeps)
  where
    by : (b c : Bool) → q x ≡ b → p x ≡ c → list_any p (filter q xs) ≡ list_any p xs
        → list_any p (cond b (x ∷ filter q xs) (filter q xs)) ≡ (p x || list_any p xs)
    by true c is has h = ap (λ (a : Bool). p x || a) h
    by false false is has h = h ∙ ap (λ (a : Bool). a || list_any p xs) (sym has)
    by false true is has h = let kept : q x ≡ true = keeps x has in cc

-- a number that is not above another is not the one above that
other-number : (a k n : ℕ) → (a == k) ≡ true → k ≤ n → not (a == suc n) ≡ true
other-number a k n same within = grind (arith, nat_tests)

-- as many numbers as some have are no more than those
pub few-numbers : {A : Type 0} (f : A → ℕ) (n : ℕ) (xs : List A) → ((k : ℕ) → 0 < k → k ≤ n → list_any (λ (x : A). f x == k) xs ≡ true) → n ≤ length xs
few-numbers f zero xs has = omega arith
few-numbers {A} f (suc n) xs has =
    let fewer : length (filter (λ (x : A). not (f x == suc n)) xs) + 1 ≤ length xs = any-fewer (λ (x : A). f x == suc n) xs (has (suc n) (omega arith) (omega arith)) in
    let rest : n ≤ length (filter (λ (x : A). not (f x == suc n)) xs) =
    few-numbers f n (filter (λ (x : A). not (f x == suc n)) xs)
    (λ k some within. any-kept (λ (x : A). f x == k) (λ (x : A). not (f x == suc n)) xs (λ x same. other-number (f x) k n same within) ∙ has k some (omega arith)) in
    omega arith

-- as many pass a test before a change as after it
pub length-filter-map : {A B : Type 0} (f : A → B) (p : B → Bool) (xs : List A) → length (filter p (map f xs)) ≡ length (filter (λ (x : A). p (f x)) xs)
length-filter-map f p [] = refl
length-filter-map {A} {B} f p (x ∷ xs) = by (p (f x)) (length-filter-map f p xs)
  where
    by : (b : Bool) → length (filter p (map f xs)) ≡ length (filter (λ (y : A). p (f y)) xs)
        → length (cond b (f x ∷ filter p (map f xs)) (filter p (map f xs))) ≡ length (cond b (x ∷ filter (λ (y : A). p (f y)) xs) (filter (λ (y : A). p (f y)) xs))
    by true h = ap (λ (n : ℕ). suc n) h
    by false h = h

-- tests that agree on all members
pub filter-same : (p q : ℕ → Bool) (xs : List ℕ) → ((x : ℕ) → Contains xs x → p x ≡ q x) → filter p xs ≡ filter q xs
filter-same p q [] same = refl
filter-same p q (x ∷ xs) same =
    (λ i. cond (same x (member-head x xs) i) (x ∷ filter p xs) (filter p xs))
    ∙ ap (λ l. cond (q x) (x ∷ l) l) (filter-same p q xs (λ y member. same y (member-tail x xs y member)))

-- one more number is counted
pub counted-next : (numbers counts : List ℕ) (i n was : ℕ) → i < length numbers → n ≡ get_or numbers i 0 → n < length counts → was ≡ get_or counts n 0
    → ((k : ℕ) → k < length counts → get_or counts k 0 ≡ count_by (λ m. eqb m k) (take i numbers))
    → (k : ℕ) → k < length counts → get_or (set counts n (was + 1)) k 0 ≡ count_by (λ m. eqb m k) (take (i + 1) numbers)
counted-next numbers counts i n was within at below read counted k known =
    elim (cases_eq k n) [
      | inl e ↦
          rw (e, get_or-set_same counts n (was + 1) 0 below, count_by_more_yes (λ m. eqb m n) numbers i 0 within (eq-eqb _ _ (sym at)))
          (ap (λ m. m + 1) (read ∙ counted n below))
      | inr ne ↦
          rw (
            get_or-set_other counts n k (was + 1) 0 ne,
            count_by_more_no (λ m. eqb m k) numbers i 0 within (ne_eqb _ _ (λ same. ne (sym same ∙ sym at))),
          )
          (counted k known)
    ]

-- tests that agree count alike
pub counted-same : (p q : ℕ → Bool) (xs : List ℕ) → ((x : ℕ) → Contains xs x → p x ≡ q x) → count_by p xs ≡ count_by q xs
counted-same p q [] same = refl
counted-same p q (x ∷ xs) same =
    let here : ◌≡◌ {A = ℕ} (cond (p x) 1 0) (cond (q x) 1 0) = ap (λ (b : Bool). cond b 1 0) (same x (member-head x xs)) in
    let rest = counted-same p q xs (λ y there. same y (member-tail x xs y there)) in
    sum_by-cons (λ y. cond (p y) 1 0) x xs ∙ omega arith ∙ sym (sum_by-cons (λ y. cond (q y) 1 0) x xs)

pub counted-none : (xs : List ℕ) → count_by (λ x. false) xs ≡ 0
counted-none [] = refl
counted-none (x ∷ xs) = omega (arith, counted-none xs, sum_by-cons (λ (y : ℕ). cond false 1 0) x xs)

-- a stricter test keeps fewer, and less where it refuses a member that the other one keeps
pub filter-fewer : {X : Type 0} (p q : X → Bool) (xs : List X) → ((x : X) → q x ≡ true → p x ≡ true) → length (filter q xs) ≤ length (filter p xs)
filter-fewer p q [] stricter = omega arith
filter-fewer p q (x ∷ xs) stricter = step (p x) (q x) x (filter p xs) (filter q xs) (stricter x) (filter-fewer p q xs stricter) where
  step : {X : Type 0} (b c : Bool) (x : X) (ps qs : List X) → (c ≡ true → b ≡ true) → length qs ≤ length ps → length (cond c (x ∷ qs) qs) ≤ length (cond b (x ∷ ps) ps)
  step true true x ps qs stricter fewer = omega arith
  step true false x ps qs stricter fewer = omega arith
  step false true x ps qs stricter fewer = absurd (cc (stricter refl))
  step false false x ps qs stricter fewer = fewer

pub filter-less : {X : Type 0} (p q : X → Bool) (x : X) (xs : List X) → ((x : X) → q x ≡ true → p x ≡ true) → Contains xs x → p x ≡ true → q x ≡ false
    → length (filter q xs) < length (filter p xs)
filter-less p q x [] stricter member kept refused = absurd (omega (arith, member.1))
filter-less p q x (y ∷ ys) stricter member kept refused = elim (member-cases y ys x member) [
  | inl same ↦ here (p y) (q y) y (filter p ys) (filter q ys) (ap p same ∙ kept) (ap q same ∙ refused) (filter-fewer p q ys stricter)
  | inr later ↦ there (p y) (q y) y (filter p ys) (filter q ys) (stricter y) (filter-less p q x ys stricter later kept refused)
] where
  here : {X : Type 0} (b c : Bool) (y : X) (ps qs : List X) → b ≡ true → c ≡ false → length qs ≤ length ps → length (cond c (y ∷ qs) qs) < length (cond b (y ∷ ps) ps)
  here true false y ps qs is refusal fewer = omega arith
  here true true y ps qs is refusal fewer = absurd (cc refusal)
  here false c y ps qs is refusal fewer = absurd (cc is)

  there : {X : Type 0} (b c : Bool) (y : X) (ps qs : List X) → (c ≡ true → b ≡ true) → length qs < length ps → length (cond c (y ∷ qs) qs) < length (cond b (y ∷ ps) ps)
  there true true y ps qs stricter less = omega arith
  there true false y ps qs stricter less = omega arith
  there false true y ps qs stricter less = absurd (cc (stricter refl))
  there false false y ps qs stricter less = less
