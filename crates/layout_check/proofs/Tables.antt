use Rattle.std.proofs.Common.{◌≡◌, ◌+◌, ◌<◌, ◌≤◌, ℕ, zero, suc, List, [], ◌∷◌, ◌++◌, Bool, true, false, if◌then◌else◌, ◌&&◌, not, cond, eqb, Option, Some, None, length, map, take, drop, set, refl, ap, ap₂, sym, ◌∙◌, inl, inr, arith}
use Rattle.std.specs.Prelude.{All, slice_index, slice_index_or, unwrap_or}
use Rattle.std.specs.List.{position_from, position_or_len, slice_get, zip}
use Rattle.std.proofs.lemmas.Bool.{cases_eq, eq-eqb, ne_eqb}
use Rattle.std.proofs.lemmas.List.{length-map, length-set, take_all}
use Rattle.std.proofs.lemmas.List.Elements.{All-map}
use Rattle.std.proofs.lemmas.Option.{slice_get-get_or, slice_get_within}
use Rattle.list_facts.specs.Lists.{list_there, with_item}
use Rattle.rule_check.specs.Failing.{failing, failing_from}
use Rattle.layout_check.specs.Groups.{differing, differs_from, first_of, firsts_of, pairs_below, pairs_in}
use Rattle.std_laws.proofs.Places.{take-here, get-set-same, get-set-other}
use Rattle.std_laws.proofs.Zips.{length-zip, zip-at}
use Rattle.std_laws.proofs.Searches.{first-at, position-front}
use Rattle.std_laws.proofs.Slices.{split-here, length-here}

-- one more member is asked whether it fails
failing-push : {A : Type 0} (fails : A → Bool) (n : ℕ) (xs : List A) (y : A)
    → failing_from fails n (xs ++ y ∷ []) ≡ with_item (fails y) (n + length xs) (failing_from fails n xs)
failing-push fails n [] y = let none : n + 0 ≡ n = omega arith in by (fails y) ∙ ap (λ m. with_item (fails y) m []) (sym none)
  where
    by : (t : Bool) → (if t then n ∷ [] else []) ≡ with_item t n []
    by true = refl
    by false = refl
failing-push fails n (x ∷ xs) y =
    let more : n + 1 + length xs ≡ n + suc (length xs) = omega arith in
    ap (λ rest. if fails x then n ∷ rest else rest) (failing-push fails (n + 1) xs y ∙ ap (λ m. with_item (fails y) m (failing_from fails (n + 1) xs)) more)
    ∙ by (fails x) (fails y)
  where
    by : (t u : Bool)
        → (if t then n ∷ with_item u (n + suc (length xs)) (failing_from fails (n + 1) xs) else with_item u (n + suc (length xs)) (failing_from fails (n + 1) xs))
        ≡ with_item u (n + suc (length xs)) (if t then n ∷ failing_from fails (n + 1) xs else failing_from fails (n + 1) xs)
    by true true = refl
    by true false = refl
    by false true = refl
    by false false = refl

pub failing-step : {A : Type 0} (fails : A → Bool) (xs : List A) (k : ℕ) (x : A) → slice_get xs k ≡ Some x
    → failing fails (take (k + 1) xs) ≡ with_item (fails x) k (failing fails (take k xs))
failing-step fails xs k x is =
    let long : 0 + length (take k xs) ≡ k = omega (arith, length-here xs k x is) in
    ap (failing fails) (take-here xs k x is) ∙ failing-push fails 0 (take k xs) x ∙ ap (λ m. with_item (fails x) m (failing fails (take k xs))) long

-- a member of the kind of its first is entered nowhere, and another at its first
module _ (firsts kinds : List ℕ) (k n : ℕ) (long : length kinds ≡ length firsts) (within : k < length firsts) where
  row-is : slice_get (zip firsts kinds) k ≡ Some (slice_index firsts k, slice_index kinds k)
  row-is = zip-at firsts kinds k _ _ (slice_get-get_or firsts k 0 within) (slice_get-get_or kinds k 0 (omega arith))

  row-step : failing (differs_from n (slice_index kinds n)) (take (k + 1) (zip firsts kinds))
      ≡ with_item (differs_from n (slice_index kinds n) (slice_index firsts k, slice_index kinds k)) k
      (failing (differs_from n (slice_index kinds n)) (take k (zip firsts kinds)))
  row-step = failing-step (differs_from n (slice_index kinds n)) (zip firsts kinds) k (slice_index firsts k, slice_index kinds k) row-is

  pub alike-step : slice_index kinds k ≡ slice_index kinds (slice_index firsts k)
      → failing (differs_from n (slice_index kinds n)) (take (k + 1) (zip firsts kinds)) ≡ failing (differs_from n (slice_index kinds n)) (take k (zip firsts kinds))
  alike-step alike = row-step ∙ ap (λ t. with_item t k (failing (differs_from n (slice_index kinds n)) (take k (zip firsts kinds)))) not-here
    where
      not-here : (eqb (slice_index firsts k) n && not (eqb (slice_index kinds k) (slice_index kinds n))) ≡ false
      not-here =
          elim (cases_eq (slice_index firsts k) n) [
            | inl same ↦
                ap (λ t. eqb (slice_index firsts k) n && not t) (eq-eqb (slice_index kinds k) (slice_index kinds n) (alike ∙ ap (slice_index kinds) same))
                ∙ and-false (eqb (slice_index firsts k) n)
            | inr apart ↦ ap (λ t. t && not (eqb (slice_index kinds k) (slice_index kinds n))) (ne_eqb (slice_index firsts k) n apart)
          ]
        where
          and-false : (t : Bool) → (t && false) ≡ false
          and-false true = refl
          and-false false = refl

  pub differ-step : (slice_index kinds k ≡ slice_index kinds (slice_index firsts k) → ⊥)
      → failing (differs_from n (slice_index kinds n)) (take (k + 1) (zip firsts kinds))
      ≡ with_item (eqb (slice_index firsts k) n) k (failing (differs_from n (slice_index kinds n)) (take k (zip firsts kinds)))
  differ-step differ = row-step ∙ ap (λ t. with_item t k (failing (differs_from n (slice_index kinds n)) (take k (zip firsts kinds)))) here
    where
      here : (eqb (slice_index firsts k) n && not (eqb (slice_index kinds k) (slice_index kinds n))) ≡ eqb (slice_index firsts k) n
      here =
          elim (cases_eq (slice_index firsts k) n) [
            | inl same ↦
                ap (λ t. eqb (slice_index firsts k) n && not t)
                (ne_eqb (slice_index kinds k) (slice_index kinds n) (λ alike. differ (alike ∙ ap (slice_index kinds) (sym same))))
                ∙ and-true (eqb (slice_index firsts k) n)
            | inr apart ↦
                ap (λ t. t && not (eqb (slice_index kinds k) (slice_index kinds n))) (ne_eqb (slice_index firsts k) n apart)
                ∙ sym (ne_eqb (slice_index firsts k) n apart)
          ]
        where
          and-true : (t : Bool) → (t && true) ≡ t
          and-true true = refl
          and-true false = refl

pub all-rows : (firsts kinds : List ℕ) (n k : ℕ) → length kinds ≡ length firsts → length firsts ≤ k
    → failing (differs_from n (slice_index kinds n)) (take k (zip firsts kinds)) ≡ differing firsts kinds n
all-rows firsts kinds n k long past =
    let rows : length (zip firsts kinds) ≡ length kinds = length-zip firsts kinds (sym long) in
    ap (failing (differs_from n (slice_index kinds n))) (take_all k (zip firsts kinds) (omega arith))

-- the lists of those that differ make the pairs
pub pairs-listed : (firsts kinds : List ℕ) (lists : List (List ℕ)) (n : ℕ) → ((k : ℕ) → k < n → slice_get lists k ≡ Some (differing firsts kinds k))
    → pairs_in n lists ≡ pairs_below n firsts kinds
pairs-listed firsts kinds lists zero each = refl
pairs-listed firsts kinds lists (suc n) each =
    ap₂ (λ (front : List (ℕ × ℕ)) (later : List ℕ). front ++ map (λ (k : ℕ). (n, k)) later) (pairs-listed firsts kinds lists n (λ k less. each k (omega arith)))
    (ap list_there (each n (omega arith)))

-- the first of each group is a member
pub firsts-within : (groups : List ℕ) → All (λ (f : ℕ). f < length (firsts_of groups)) (firsts_of groups)
firsts-within groups =
    All-map (λ (f : ℕ). f < length (firsts_of groups)) (first_of groups) groups (λ k d within.
    let is : slice_get groups k ≡ Some (slice_index_or groups k d) = slice_get-get_or groups k d within in
    let found = first-at (λ (g : ℕ). eqb (slice_index_or groups k d) g) groups k (slice_index_or groups k d) is (eq-eqb _ _ refl) in
    let below : first_of groups (slice_index_or groups k d) < length groups = slice_get_within groups (first_of groups (slice_index_or groups k d)) found.0 found.1 in
    let long : length (firsts_of groups) ≡ length groups = length-map groups (first_of groups) in
    omega arith)

-- a place that is found stays the first, and where none is found the next may be
abbrev or_next : Option ℕ → Bool → ℕ → Option ℕ
or_next (Some n) passes next = Some n
or_next None passes next = if passes then Some next else None

position-push : {A : Type 0} (p : A → Bool) (n : ℕ) (xs : List A) (y : A)
    → position_from p n (xs ++ y ∷ []) ≡ or_next (position_from p n xs) (p y) (n + length xs)
position-push p n [] y = let none : n ≡ n + 0 = omega arith in ap (λ m. cond (p y) (Some m) None) none
position-push p n (x ∷ xs) y = by (p x) (position-push p (n + 1) xs y)
  where
    by : (t : Bool) → position_from p (n + 1) (xs ++ y ∷ []) ≡ or_next (position_from p (n + 1) xs) (p y) (n + 1 + length xs)
        → cond t (Some n) (position_from p (n + 1) (xs ++ y ∷ [])) ≡ or_next (cond t (Some n) (position_from p (n + 1) xs)) (p y) (n + suc (length xs))
    by true later = refl
    by false later =
        let more : n + 1 + length xs ≡ n + suc (length xs) = omega arith in
        later ∙ ap (or_next (position_from p (n + 1) xs) (p y)) more

pub first-read : (groups : List ℕ) (k g : ℕ) → slice_get groups k ≡ Some g → unwrap_or (position_from (λ (h : ℕ). eqb g h) 0 (take k groups)) k ≡ first_of groups g
first-read groups k g is =
    let long : k ≡ 0 + length (take k groups) = omega (arith, length-here groups k g is) in
    let none : 0 + position_or_len (λ (h : ℕ). eqb g h) (take k groups ++ g ∷ drop (suc k) groups) ≡ position_or_len (λ (h : ℕ). eqb g h) (take k groups ++ g ∷ drop (suc k) groups) = omega arith in
    ap (unwrap_or (position_from (λ (h : ℕ). eqb g h) 0 (take k groups))) long
    ∙ position-front (λ (h : ℕ). eqb g h) 0 (take k groups) (drop (suc k) groups) g (eq-eqb g g refl)
    ∙ none ∙ ap (position_or_len (λ (h : ℕ). eqb g h)) (sym (split-here groups k g is))

-- a table has for each group the first among so many members, and then among one more
pub table-step : (groups : List ℕ) (k h first : ℕ) (items new : List (Option ℕ)) → slice_get groups k ≡ Some h → h < length items
    → ((g : ℕ) → g < length items → slice_get items g ≡ Some (position_from (λ (m : ℕ). eqb g m) 0 (take k groups)))
    → first ≡ unwrap_or (position_from (λ (m : ℕ). eqb h m) 0 (take k groups)) k → new ≡ set items h (Some first)
    → (g : ℕ) → g < length new → slice_get new g ≡ Some (position_from (λ (m : ℕ). eqb g m) 0 (take (k + 1) groups))
table-step groups k h first items new is within table reads put g below =
    let long : length new ≡ length items = ap length put ∙ length-set items h (Some first) in
    let last : 0 + length (take k groups) ≡ k = omega (arith, length-here groups k h is) in
    let more : position_from (λ (m : ℕ). eqb g m) 0 (take (k + 1) groups) ≡ or_next (position_from (λ (m : ℕ). eqb g m) 0 (take k groups)) (eqb g h) k =
    ap (position_from (λ (m : ℕ). eqb g m) 0) (take-here groups k h is) ∙ position-push (λ (m : ℕ). eqb g m) 0 (take k groups) h
    ∙ ap (or_next (position_from (λ (m : ℕ). eqb g m) 0 (take k groups)) (eqb g h)) last in
    elim (cases_eq g h) [
      | inl same ↦
          ap (λ (l : List (Option ℕ)). slice_get l g) put ∙ ap (slice_get (set items h (Some first))) same ∙ get-set-same items h (Some first) within
          ∙ ap (λ (o : Option ℕ). Some o) (ap (λ (n : ℕ). Some n) (reads ∙ ap (λ (m : ℕ). unwrap_or (position_from (λ (n : ℕ). eqb m n) 0 (take k groups)) k) (sym same))
          ∙ or-here (position_from (λ (m : ℕ). eqb g m) 0 (take k groups)) (eqb g h) k (eq-eqb g h same) ∙ sym more)
      | inr apart ↦
          ap (λ (l : List (Option ℕ)). slice_get l g) put ∙ get-set-other items h g (Some first) apart ∙ table g (omega arith)
          ∙ ap (λ (o : Option ℕ). Some o) (or-stays (position_from (λ (m : ℕ). eqb g m) 0 (take k groups)) (eqb g h) k (ne_eqb g h apart) ∙ sym more)
    ]
  where
    or-here : (o : Option ℕ) (t : Bool) (k : ℕ) → t ≡ true → Some (unwrap_or o k) ≡ or_next o t k
    or-here (Some n) t k passes = refl
    or-here None t k passes = ap (λ u. if u then Some k else None) (sym passes)

    or-stays : (o : Option ℕ) (t : Bool) (k : ℕ) → t ≡ false → o ≡ or_next o t k
    or-stays (Some n) t k fails = refl
    or-stays None t k fails = ap (λ u. if u then Some k else None) (sym fails)
