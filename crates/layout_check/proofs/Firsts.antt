use Rattle.std.proofs.Common.{◌≡◌, ◌+◌, ◌<◌, ◌≤◌, ℕ, zero, suc, List, [], ◌∷◌, ◌++◌, Bool, true, false, if◌then◌else◌, ◌||◌, ◌&&◌, not, eqb, length, map, Some, refl, ap, subst, sym, ◌∙◌, inl, inr, append_assoc, arith}
use Rattle.std.specs.Prelude.{slice_index}
use Rattle.std.specs.List.{list_any, position_or_len, slice_get, zip}
use Rattle.std.proofs.lemmas.Bool.{both_ways, cases_lt, eq-eqb, ne_eqb}
use Rattle.std.proofs.lemmas.List.{append-nil, length-append}
use Rattle.std.proofs.lemmas.List.Folds.{list_any-append}
use Rattle.std.proofs.lemmas.Option.{get_or_from_slice_get, slice_get_within}
use Rattle.rule_check.specs.Failing.{failing_from}
use Rattle.layout_check.specs.Groups.{differing, differing_pairs, pairs_below}
use Rattle.layout_check.specs.NetFaults.{pairs_of_firsts, pairs_of_firsts_from}
use Rattle.layout_check.proofs.Picking.{failing-picked, picked, picked-later, picked-none}
use Rattle.std_laws.proofs.Places.{at-place, get-front}
use Rattle.std_laws.proofs.Zips.{at-zip, length-zip}
use Rattle.std_laws.proofs.Searches.{before-first, first-at, none-before}

abbrev unless : Bool → List (ℕ × ℕ) → List (ℕ × ℕ)
unless t pairs = if t then [] else pairs

-- a member with some later ones
abbrev with_each : ℕ → List ℕ → List (ℕ × ℕ)
with_each n numbers = map (λ (later : ℕ). (n, later)) numbers

-- the later pairs, from a member on
abbrev pairs_from : ℕ → ℕ → List ℕ → List ℕ → List (ℕ × ℕ)
pairs_from n zero firsts kinds = []
pairs_from n (suc count) firsts kinds = with_each n (differing firsts kinds n) ++ pairs_from (n + 1) count firsts kinds

pairs_below-from : (n count : ℕ) (firsts kinds : List ℕ) → pairs_below n firsts kinds ++ pairs_from n count firsts kinds ≡ pairs_below (n + count) firsts kinds
pairs_below-from n zero firsts kinds =
    let none : n + 0 ≡ n = omega arith in
    append-nil (pairs_below n firsts kinds) ∙ ap (λ (m : ℕ). pairs_below m firsts kinds) (sym none)
pairs_below-from n (suc count) firsts kinds =
    let next : n + 1 ≡ suc n = omega arith in
    let more : n + 1 + count ≡ n + suc count = omega arith in
    sym (append_assoc (pairs_below n firsts kinds) (with_each n (differing firsts kinds n)) (pairs_from (n + 1) count firsts kinds))
    ∙ ap (λ (m : ℕ). pairs_below m firsts kinds ++ pairs_from (n + 1) count firsts kinds) (sym next)
    ∙ pairs_below-from (n + 1) count firsts kinds
    ∙ ap (λ (m : ℕ). pairs_below m firsts kinds) more

module _ {A K : Type 0} (key : A → K) (test : K → K → Bool) (one : (a b : K) → test a b ≡ true → a ≡ b) (own : (a : K) → test a a ≡ true)
    (fail : A → A → Bool) (all : List A) (firsts kinds : List ℕ) where
  -- the place of the first of a key
  abbrev pub place : K → ℕ
  place k = position_or_len (λ (y : A). test k (key y)) all

  abbrev same : A → A → Bool
  same x y = test (key x) (key y)

  -- whether a member differs from this one as its first
  abbrev pub does : ℕ → ℕ → Bool
  does n j = eqb (slice_index firsts j) n && not (eqb (slice_index kinds j) (slice_index kinds n))

  -- each member has a first and a kind, by which those of one key fail with each other
  pub record AreGrouped : Type 0 where
    pub long_firsts : length firsts ≡ length all
    pub long_kinds : length kinds ≡ length all
    pub reads : (j : ℕ) (y : A) → slice_get all j ≡ Some y → slice_index firsts j ≡ place (key y)
    pub agrees : (i j : ℕ) (x y : A) → i < j → slice_get all i ≡ Some x → slice_get all j ≡ Some y → key x ≡ key y
        → fail x y ≡ not (eqb (slice_index kinds j) (slice_index kinds i))

  pub differing-picked : AreGrouped → (n : ℕ) → differing firsts kinds n ≡ picked (does n) 0 (length all)
  differing-picked are n =
      let long : length (zip firsts kinds) ≡ length kinds = length-zip firsts kinds (are.long_firsts ∙ sym are.long_kinds) in
      failing-picked (λ (p : ℕ × ℕ). eqb p.0 n && not (eqb p.1 (slice_index kinds n))) (does n) 0 (zip firsts kinds)
      (λ i p is.
      let at = at-zip firsts kinds i p is in
      let index : 0 + i ≡ i = omega arith in
      ap (λ (f : ℕ). eqb f n && not (eqb p.1 (slice_index kinds n))) (sym (get_or_from_slice_get firsts i p.0 0 at.0))
      ∙ ap (λ (k : ℕ). eqb (slice_index firsts i) n && not (eqb k (slice_index kinds n))) (sym (get_or_from_slice_get kinds i p.1 0 at.1))
      ∙ ap (does n) (sym index))
      ∙ ap (picked (does n) 0) (long ∙ are.long_kinds)

  -- no member differs from one that is not the first of its key
  none-of : AreGrouped → (n : ℕ) (x : A) → slice_get all n ≡ Some x → place (key x) < n → (j : ℕ) → j < length all → does n j ≡ false
  none-of are n x is before j within =
      let at = at-place all j within in
      let found = first-at (λ (z : A). test (key at.0) (key z)) all j at.0 at.1 (own (key at.0)) in
      let apart : eqb (slice_index firsts j) n ≡ false =
      ne_eqb (slice_index firsts j) n (λ equal.
      let here : place (key at.0) ≡ n = sym (are.reads j at.0 at.1) ∙ equal in
      let first : found.0 ≡ x = cc (found.1, is) in
      let keys : key at.0 ≡ key x = one (key at.0) (key found.0) found.2 ∙ ap key first in
      let again : place (key x) ≡ n = ap place (sym keys) ∙ here in
      omega arith) in
      ap (λ t. t && not (eqb (slice_index kinds j) (slice_index kinds n))) apart

  -- nor does one that stands before it, or it itself
  none-up : AreGrouped → (n : ℕ) (x : A) → slice_get all n ≡ Some x → (j : ℕ) → j < suc n → does n j ≡ false
  none-up are n x is j within =
      elim (cases_lt j n) [
        | inl less ↦
            let long : n < length all = slice_get_within all n x is in
            let at = at-place all j (omega arith) in
            let found = first-at (λ (z : A). test (key at.0) (key z)) all j at.0 at.1 (own (key at.0)) in
            let low : place (key at.0) ≤ j = found.3 in
            let reads : slice_index firsts j ≡ place (key at.0) = are.reads j at.0 at.1 in
            ap (λ t. t && not (eqb (slice_index kinds j) (slice_index kinds n))) (ne_eqb (slice_index firsts j) n (λ equal. absurd (omega arith)))
        | inr past ↦
            let here : j ≡ n = omega arith in
            and-false (eqb (slice_index firsts j) n) (eqb (slice_index kinds j) (slice_index kinds n)) (eq-eqb _ _ (ap (slice_index kinds) here))
      ]
    where
      and-false : (a b : Bool) → b ≡ true → (a && not b) ≡ false
      and-false true b is = ap not is
      and-false false b is = refl

  -- a later one differs from the first of its key where it fails with it
  does-later : AreGrouped → (n : ℕ) (x : A) → slice_get all n ≡ Some x → place (key x) ≡ n → (j : ℕ) (y : A) → n < j → slice_get all j ≡ Some y
      → (same x y && fail x y) ≡ does n j
  does-later are n x is first j y later at = by (same x y) refl
    where
      by : (t : Bool) → same x y ≡ t → (t && fail x y) ≡ does n j
      by true equal =
          let keys : key x ≡ key y = one (key x) (key y) equal in
          let here : eqb (slice_index firsts j) n ≡ true = eq-eqb (slice_index firsts j) n (are.reads j y at ∙ ap place (sym keys) ∙ first) in
          are.agrees n j x y later is at keys ∙ ap (λ t. t && not (eqb (slice_index kinds j) (slice_index kinds n))) (sym here)
      by false equal =
          let found = first-at (λ (z : A). test (key y) (key z)) all j y at (own (key y)) in
          let apart : eqb (slice_index firsts j) n ≡ false =
          ne_eqb (slice_index firsts j) n (λ equals.
          let here : place (key y) ≡ n = sym (are.reads j y at) ∙ equals in
          let read : found.0 ≡ x = cc (found.1, is) in
          let keys : key y ≡ key x = one (key y) (key found.0) found.2 ∙ ap key read in
          both_ways (same x y) equal (subst (λ (k : K). test (key x) k ≡ true) (sym keys) (own (key x)))) in
          ap (λ t. t && not (eqb (slice_index kinds j) (slice_index kinds n))) (sym apart)

  -- the pairs of one member
  pairs-here : AreGrouped → (front : List A) (x : A) (rest : List A) → all ≡ front ++ x ∷ rest
      → unless (list_any (same x) front) (with_each (length front) (failing_from (λ y. same x y && fail x y) (length front + 1) rest))
      ≡ with_each (length front) (differing firsts kinds (length front))
  pairs-here are front x rest split = by (list_any (same x) front) refl
    where
      is : slice_get all (length front) ≡ Some x
      is = ap (λ (xs : List A). slice_get xs (length front)) split ∙ get-front front x rest

      long : length all ≡ suc (length front) + length rest
      long = let sum : length all ≡ length front + suc (length rest) = ap length split ∙ length-append front (x ∷ rest) in omega arith

      low : place (key x) ≤ length front
      low = let found = first-at (λ (z : A). test (key x) (key z)) all (length front) x is (own (key x)) in found.3

      by : (t : Bool) → list_any (same x) front ≡ t
          → unless t (with_each (length front) (failing_from (λ y. same x y && fail x y) (length front + 1) rest))
          ≡ with_each (length front) (differing firsts kinds (length front))
      by true any =
          let before : place (key x) < length front =
          subst (λ (xs : List A). position_or_len (same x) xs < length front) (sym split) (before-first (same x) front (x ∷ rest) any) in
          ap (with_each (length front))
          (sym (differing-picked are (length front) ∙ picked-none (does (length front)) 0 (length all)
          (λ i within. let index : 0 + i ≡ i = omega arith in ap (does (length front)) index ∙ none-of are (length front) x is before i within)))
      by false none =
          let past : length front ≤ place (key x) =
          subst (λ (xs : List A). length front ≤ position_or_len (same x) xs) (sym split) (none-before (same x) front (x ∷ rest) none) in
          let first : place (key x) ≡ length front = omega (arith, low) in
          let next : 0 + suc (length front) ≡ length front + 1 = omega arith in
          ap (with_each (length front))
          (failing-picked (λ y. same x y && fail x y) (does (length front)) (length front + 1) rest
          (λ i y at.
          let there : slice_get all (length front + 1 + i) ≡ Some y = ap (λ (xs : List A). slice_get xs (length front + 1 + i)) split ∙ behind front x rest i ∙ at in
          does-later are (length front) x is first (length front + 1 + i) y (omega arith) there)
          ∙ sym (differing-picked are (length front) ∙ ap (picked (does (length front)) 0) long
          ∙ picked-later (does (length front)) 0 (suc (length front)) (length rest)
          (λ i within. let index : 0 + i ≡ i = omega arith in ap (does (length front)) index ∙ none-up are (length front) x is i within)
          ∙ ap (λ (m : ℕ). picked (does (length front)) m (length rest)) next))
        where
          behind : (front : List A) (x : A) (rest : List A) (i : ℕ) → slice_get (front ++ x ∷ rest) (length front + 1 + i) ≡ slice_get rest i
          behind [] x rest i = let index : 0 + 1 + i ≡ suc i = omega arith in ap (slice_get (x ∷ rest)) index
          behind (z ∷ zs) x rest i =
              let index : suc (length zs) + 1 + i ≡ suc (length zs + 1 + i) = omega arith in
              ap (slice_get (z ∷ (zs ++ x ∷ rest))) index ∙ behind zs x rest i

  from-here : AreGrouped → (before front rest : List A) → all ≡ front ++ rest → ((p : A → Bool) → list_any p before ≡ list_any p front)
      → pairs_of_firsts_from same fail before (length front) rest ≡ pairs_from (length front) (length rest) firsts kinds
  from-here are before front [] split turned = refl
  from-here are before front (x ∷ rest) split turned =
      let next : length (front ++ x ∷ []) ≡ length front + 1 = length-append front (x ∷ []) in
      let later : pairs_of_firsts_from same fail (x ∷ before) (length (front ++ x ∷ [])) rest ≡ pairs_from (length (front ++ x ∷ [])) (length rest) firsts kinds =
      from-here are (x ∷ before) (front ++ x ∷ []) rest (split ∙ sym (append_assoc front (x ∷ []) rest))
      (λ p. ap (λ t. p x || t) (turned p) ∙ swapped (p x) (list_any p front) ∙ sym (list_any-append p front (x ∷ []))) in
      ap (λ t. unless t (with_each (length front) (failing_from (λ y. same x y && fail x y) (length front + 1) rest))
      ++ pairs_of_firsts_from same fail (x ∷ before) (length front + 1) rest) (turned (same x))
      ∙ ap (λ (ps : List (ℕ × ℕ)). ps ++ pairs_of_firsts_from same fail (x ∷ before) (length front + 1) rest) (pairs-here are front x rest split)
      ∙ ap (λ (ps : List (ℕ × ℕ)). with_each (length front) (differing firsts kinds (length front)) ++ ps)
      (ap (λ (m : ℕ). pairs_of_firsts_from same fail (x ∷ before) m rest) (sym next) ∙ later ∙ ap (λ (m : ℕ). pairs_from m (length rest) firsts kinds) next)
    where
      swapped : (a b : Bool) → (a || b) ≡ (b || (a || false))
      swapped true true = refl
      swapped true false = refl
      swapped false true = refl
      swapped false false = refl

  -- the first members of keys with those that fail are the firsts with those that differ
  pub firsts-differing : AreGrouped → pairs_of_firsts same fail all ≡ differing_pairs firsts kinds
  firsts-differing are =
      let none : 0 + length all ≡ length firsts = omega (arith, are.long_firsts) in
      from-here are [] [] all refl (λ p. refl)
      ∙ pairs_below-from 0 (length all) firsts kinds
      ∙ ap (λ (m : ℕ). pairs_below m firsts kinds) none
