use Rattle.std.proofs.Common.{◌≡◌, ◌+◌, ◌<◌, ℕ, zero, suc, List, [], ◌++◌, Bool, true, false, ◌&&◌, not, eqb, length, map, Some, refl, ap, subst, sym, ◌∙◌, inl, inr, arith}
use Rattle.std.specs.Prelude.{slice_index}
use Rattle.std.specs.List.{slice_get}
use Rattle.std.proofs.lemmas.Bool.{and_left, cases_Bool, cases_lt, eq-eqb, eqb-true, not-false}
use Rattle.std.proofs.lemmas.Option.{slice_get_within}
use Rattle.layout_check.specs.Groups.{differing, differing_pairs, pairs_below}
use Rattle.layout_check.specs.NetFaults.{pairs_of_firsts}
use Rattle.layout_check.proofs.Firsts.{AreGrouped, differing-picked, does, firsts-differing, place}
use Rattle.layout_check.proofs.Picking.{none-picked, picked-none}
use Rattle.std_laws.proofs.Places.{at-place}
use Rattle.std_laws.proofs.Searches.{first-at}
use Rattle.std_laws.proofs.Slices.{both-empty}
use Rattle.std_laws.proofs.Images.{none-mapped}

none-below : (n : ℕ) (firsts kinds : List ℕ) → pairs_below n firsts kinds ≡ [] → (k : ℕ) → k < n → differing firsts kinds k ≡ []
none-below zero firsts kinds none k within = absurd (omega arith)
none-below (suc n) firsts kinds none k within =
    let both = both-empty (pairs_below n firsts kinds) (map (λ (later : ℕ). (n, later)) (differing firsts kinds n)) none in
    elim (cases_lt k n) [
      | inl less ↦ none-below n firsts kinds both.0 k less
      | inr past ↦
          let here : n ≡ k = omega arith in
          subst (λ (m : ℕ). differing firsts kinds m ≡ []) here (none-mapped (λ (later : ℕ). (n, later)) (differing firsts kinds n) both.1)
    ]

below-none : (n : ℕ) (firsts kinds : List ℕ) → ((k : ℕ) → k < n → differing firsts kinds k ≡ []) → pairs_below n firsts kinds ≡ []
below-none zero firsts kinds none = refl
below-none (suc n) firsts kinds none =
    ap (λ (ps : List (ℕ × ℕ)). ps ++ map (λ (later : ℕ). (n, later)) (differing firsts kinds n)) (below-none n firsts kinds (λ k less. none k (omega arith)))
    ∙ ap (λ (numbers : List ℕ). map (λ (later : ℕ). (n, later)) numbers) (none n (omega arith))

module _ {A K : Type 0} (key : A → K) (test : K → K → Bool) (one : (a b : K) → test a b ≡ true → a ≡ b) (own : (a : K) → test a a ≡ true)
    (fail : A → A → Bool) (all : List A) (firsts kinds : List ℕ) (are : AreGrouped key test one own fail all firsts kinds) where
  -- all of one key are of one kind
  abbrev pub AreAlike : Type 0
  AreAlike = (i j : ℕ) (x y : A) → slice_get all i ≡ Some x → slice_get all j ≡ Some y → key x ≡ key y → slice_index kinds i ≡ slice_index kinds j

  abbrev where_first : K → ℕ
  where_first k = place key test one own fail all firsts kinds k

  abbrev does_differ : ℕ → ℕ → Bool
  does_differ n j = does key test one own fail all firsts kinds n j

  like-first : ((n j : ℕ) → n < length all → j < length all → does_differ n j ≡ false) → (j : ℕ) (y : A) → slice_get all j ≡ Some y
      → slice_index kinds j ≡ slice_index kinds (where_first (key y))
  like-first none j y is =
      let found = first-at (λ (z : A). test (key y) (key z)) all j y is (own (key y)) in
      let n_within : where_first (key y) < length all = slice_get_within all (where_first (key y)) found.0 found.1 in
      let fails : does_differ (where_first (key y)) j ≡ false = none (where_first (key y)) j n_within (slice_get_within all j y is) in
      let first : eqb (slice_index firsts j) (where_first (key y)) ≡ true = eq-eqb (slice_index firsts j) (where_first (key y)) (are.reads j y is) in
      eqb-true (slice_index kinds j) (slice_index kinds (where_first (key y)))
      (not-false (eqb (slice_index kinds j) (slice_index kinds (where_first (key y))))
      (ap (λ t. t && not (eqb (slice_index kinds j) (slice_index kinds (where_first (key y))))) (sym first) ∙ fails))

  -- where no member fails with the first of its key, all of one key are of one kind
  pub none-alike : pairs_of_firsts (λ x y. test (key x) (key y)) fail all ≡ [] → AreAlike
  none-alike none i j x y x_is y_is keys =
      let empty : differing_pairs firsts kinds ≡ [] = sym (firsts-differing key test one own fail all firsts kinds are) ∙ none in
      let each : (n k : ℕ) → n < length all → k < length all → does_differ n k ≡ false =
      λ n k within k_within.
      let at_n : differing firsts kinds n ≡ [] = none-below (length firsts) firsts kinds empty n (omega (arith, are.long_firsts)) in
      let index : 0 + k ≡ k = omega arith in
      sym (ap (does_differ n) index)
      ∙ none-picked (does_differ n) 0 (length all) k k_within (sym (differing-picked key test one own fail all firsts kinds are n) ∙ at_n) in
      like-first each i x x_is ∙ ap (λ (k : K). slice_index kinds (where_first k)) keys ∙ sym (like-first each j y y_is)

  -- and the other way round
  pub alike-none : AreAlike → pairs_of_firsts (λ x y. test (key x) (key y)) fail all ≡ []
  alike-none alike =
      firsts-differing key test one own fail all firsts kinds are
      ∙ below-none (length firsts) firsts kinds (λ n within.
      differing-picked key test one own fail all firsts kinds are n
      ∙ picked-none (does_differ n) 0 (length all) (λ j below. let index : 0 + j ≡ j = omega arith in ap (does_differ n) index ∙ at n j below))
    where
      at : (n j : ℕ) → j < length all → does_differ n j ≡ false
      at n j below =
          let y = at-place all j below in
          elim (cases_Bool (eqb (slice_index firsts j) n)) [
            | inl is ↦
                let here : where_first (key y.0) ≡ n = sym (are.reads j y.0 y.1) ∙ eqb-true (slice_index firsts j) n is in
                let found = first-at (λ (z : A). test (key y.0) (key z)) all j y.0 y.1 (own (key y.0)) in
                let kinds_same : slice_index kinds j ≡ slice_index kinds n =
                alike j n y.0 found.0 y.1 (ap (slice_get all) (sym here) ∙ found.1) (one (key y.0) (key found.0) found.2) in
                ap (λ t. eqb (slice_index firsts j) n && not t) (eq-eqb (slice_index kinds j) (slice_index kinds n) kinds_same)
                ∙ and-false (eqb (slice_index firsts j) n)
            | inr is ↦ and_left (eqb (slice_index firsts j) n) (not (eqb (slice_index kinds j) (slice_index kinds n))) is
          ]
        where
          and-false : (t : Bool) → (t && false) ≡ false
          and-false true = refl
          and-false false = refl
