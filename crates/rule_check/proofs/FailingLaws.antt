use Rattle.std.proofs.Common.{◌≡◌, ◌+◌, ◌<◌, ℕ, zero, suc, List, [], ◌∷◌, Bool, true, false, if◌then◌else◌, length, map, Some, refl, ap, subst, sym, ◌∙◌, inl, inr, arith}
use Rattle.std.specs.Prelude.{Contains}
use Rattle.std.specs.List.{slice_get}
use Rattle.std.proofs.lemmas.List.Elements.{Contains-append_cases, Contains-append_left, Contains-append_right}
use Rattle.rule_check.specs.Failing.{failing_from, failing_pairs_from}
use Rattle.std_laws.proofs.Members.{map-member, map-cases, member-same, member-tail, member-cases}

pub none-empty : {X : Type 0} (xs : List X) (x : X) → xs ≡ [] → ¬ Contains xs x
none-empty xs x empty (k, within, is) = let none : length xs ≡ 0 = ap length empty in omega arith

-- a member of a list that fails, with its place
pub record IsFailing {A : Type 0} (fails : A → Bool) (xs : List A) (k : ℕ) : Type 0 where
  pub value : A
  pub is : slice_get xs k ≡ Some value
  pub does : fails value ≡ true

-- one more in front
failing-later : {A : Type 0} (fails : A → Bool) (x : A) (xs : List A) (k : ℕ) → IsFailing fails xs k → IsFailing fails (x ∷ xs) (suc k)
failing-later fails x xs k found = record { value = found.value; is = found.is; does = found.does }

pub failing_from-member : {A : Type 0} (fails : A → Bool) (n : ℕ) (xs : List A) (m : ℕ) → Contains (failing_from fails n xs) m
    → (k : ℕ) × (m ≡ n + k) × IsFailing fails xs k
failing_from-member fails n [] m (k, within, is) = absurd (omega arith)
failing_from-member {A} fails n (x ∷ xs) m among = cases (fails x) refl among (failing_from-member fails (n + 1) xs m)
  where
    later : (k : ℕ) × (m ≡ n + 1 + k) × IsFailing fails xs k → (k : ℕ) × (m ≡ n + k) × IsFailing fails (x ∷ xs) k
    later (k, sum, found) = (suc k, omega arith, failing-later fails x xs k found)

    cases : (t : Bool) → fails x ≡ t → Contains (if t then n ∷ failing_from fails (n + 1) xs else failing_from fails (n + 1) xs) m
        → (Contains (failing_from fails (n + 1) xs) m → (k : ℕ) × (m ≡ n + 1 + k) × IsFailing fails xs k)
        → (k : ℕ) × (m ≡ n + k) × IsFailing fails (x ∷ xs) k
    cases true does among find = elim (member-cases n (failing_from fails (n + 1) xs) m among) [
      | inl same ↦ (0, omega arith, record { value = x; is = refl; does = does })
      | inr rest ↦ later (find rest)
    ]
    cases false not among find = later (find among)

pub member-failing_from : {A : Type 0} (fails : A → Bool) (n : ℕ) (xs : List A) (k m : ℕ) → IsFailing fails xs k → m ≡ n + k
    → Contains (failing_from fails n xs) m
member-failing_from fails n [] k m found sum = let never : slice_get [] k ≡ Some found.value = found.is in absurd (none-there k found.value never)
  where
    none-there : {X : Type 0} (k : ℕ) (x : X) → slice_get [] k ≡ Some x → ⊥
    none-there k x is = cc
member-failing_from fails n (x ∷ xs) zero m found sum =
    let is : Some x ≡ Some found.value = found.is in
    let same : x ≡ found.value = cc in
    let does : fails x ≡ true = ap fails same ∙ found.does in
    let here : n ≡ m = omega arith in
    let P : Bool → Type 0 = λ t. Contains (if t then n ∷ failing_from fails (n + 1) xs else failing_from fails (n + 1) xs) m in
    subst P (sym does) (member-same n m (failing_from fails (n + 1) xs) here)
member-failing_from fails n (x ∷ xs) (suc k) m found sum =
    cases (fails x) (member-failing_from fails (n + 1) xs k m (record { value = found.value; is = found.is; does = found.does }) (omega arith))
  where
    cases : (t : Bool) → Contains (failing_from fails (n + 1) xs) m
        → Contains (if t then n ∷ failing_from fails (n + 1) xs else failing_from fails (n + 1) xs) m
    cases true among = member-tail n (failing_from fails (n + 1) xs) m among
    cases false among = among

-- two members of a list of which the earlier fails with the later
pub record IsFailingPair {A : Type 0} (fails : A → A → Bool) (xs : List A) (i j : ℕ) : Type 0 where
  pub order : i < j
  pub first : A
  pub second : A
  pub first_is : slice_get xs i ≡ Some first
  pub second_is : slice_get xs j ≡ Some second
  pub fail : fails first second ≡ true

pub failing_pairs_from-member : {A : Type 0} (fails : A → A → Bool) (n : ℕ) (xs : List A) (p : ℕ × ℕ) → Contains (failing_pairs_from fails n xs) p
    → (i j : ℕ) × (p.0 ≡ n + i) × (p.1 ≡ n + j) × IsFailingPair fails xs i j
failing_pairs_from-member fails n [] p (k, within, is) = absurd (omega arith)
failing_pairs_from-member {A} fails n (x ∷ xs) p among =
    elim (Contains-append_cases (map (λ later. (n, later)) (failing_from (fails x) (n + 1) xs)) (failing_pairs_from fails (n + 1) xs) p among) [
      | inl first ↦ with_first (map-cases (λ (later : ℕ). (n, later)) (failing_from (fails x) (n + 1) xs) p first)
      | inr rest ↦ later (failing_pairs_from-member fails (n + 1) xs p rest)
    ]
  where
    with_first : (m : ℕ) × Contains (failing_from (fails x) (n + 1) xs) m × ((n, m) ≡ p) → (i j : ℕ) × (p.0 ≡ n + i) × (p.1 ≡ n + j) × IsFailingPair fails (x ∷ xs) i j
    with_first (m, among, same) =
        let found : (k : ℕ) × (m ≡ n + 1 + k) × IsFailing (fails x) xs k = failing_from-member (fails x) (n + 1) xs m among in
        let left : n ≡ p.0 = ap (λ (q : ℕ × ℕ). q.0) same in
        let right : m ≡ p.1 = ap (λ (q : ℕ × ℕ). q.1) same in (
          0,
          suc found.0,
          omega arith,
          omega arith,
          record {
            order = omega arith;
            first = x;
            second = found.2.value;
            first_is = refl;
            second_is = found.2.is;
            fail = found.2.does;
          },
        )

    later : (i j : ℕ) × (p.0 ≡ n + 1 + i) × (p.1 ≡ n + 1 + j) × IsFailingPair fails xs i j
        → (i j : ℕ) × (p.0 ≡ n + i) × (p.1 ≡ n + j) × IsFailingPair fails (x ∷ xs) i j
    later (i, j, left, right, found) =
        let order : i < j = found.order in (
          suc i,
          suc j,
          omega arith,
          omega arith,
          record {
            order = omega arith;
            first = found.first;
            second = found.second;
            first_is = found.first_is;
            second_is = found.second_is;
            fail = found.fail;
          },
        )

pub member-failing_pairs_from : {A : Type 0} (fails : A → A → Bool) (n : ℕ) (xs : List A) (i j : ℕ) (p : ℕ × ℕ) → IsFailingPair fails xs i j
    → p.0 ≡ n + i → p.1 ≡ n + j → Contains (failing_pairs_from fails n xs) p
member-failing_pairs_from fails n [] i j p found left right = absurd (none-there i found.first found.first_is)
  where
    none-there : {X : Type 0} (k : ℕ) (x : X) → slice_get [] k ≡ Some x → ⊥
    none-there k x is = cc
member-failing_pairs_from fails n (x ∷ xs) i zero p found left right = let order : i < 0 = found.order in absurd (omega arith)
member-failing_pairs_from {A} fails n (x ∷ xs) zero (suc j) p found left right =
    let is : Some x ≡ Some found.first = found.first_is in
    let same : x ≡ found.first = cc in
    let does : fails x found.second ≡ true = ap (λ (z : A). fails z found.second) same ∙ found.fail in
    let among : Contains (failing_from (fails x) (n + 1) xs) p.1 =
    member-failing_from (fails x) (n + 1) xs j p.1 (record { value = found.second; is = found.second_is; does = does }) (omega arith) in
    let here : n ≡ p.0 = omega arith in
    let pair : (n, p.1) ≡ p = ap (λ k. (k, p.1)) here in
    Contains-append_left (map (λ later. (n, later)) (failing_from (fails x) (n + 1) xs)) (failing_pairs_from fails (n + 1) xs) p
    (subst (Contains (map (λ later. (n, later)) (failing_from (fails x) (n + 1) xs))) pair
    (map-member (λ (later : ℕ). (n, later)) (failing_from (fails x) (n + 1) xs) p.1 among))
member-failing_pairs_from fails n (x ∷ xs) (suc i) (suc j) p found left right =
    let order : suc i < suc j = found.order in
    Contains-append_right (map (λ later. (n, later)) (failing_from (fails x) (n + 1) xs)) (failing_pairs_from fails (n + 1) xs) p
    (member-failing_pairs_from fails (n + 1) xs i j p (record {
      order = omega arith;
      first = found.first;
      second = found.second;
      first_is = found.first_is;
      second_is = found.second_is;
      fail = found.fail;
    }) (omega arith) (omega arith))
