use Rattle.std.proofs.Common.{◌≡◌, inl, inr, ◌<◌, ◌≤◌, ◌&&◌, ◌||◌, ◌≢◌, eqb, ltb, leb, ℕ, zero, suc, List, [], ◌∷◌, true, false, length, get_or, slice_get, refl, sym, ◌∙◌, arith}
use Rattle.std.proofs.lemmas.Bool.{cases_eq, cond-true, cond-false, eq-eqb, ne_eqb}
use Rattle.std.proofs.lemmas.Bool.Decides.{nat_tests}
use Rattle.std.specs.List.{AllWithin}
use Rattle.choose_core.specs.declared.candidate.Next.TheVariants.{Ends}
use Rattle.greedy_column.specs.declared.uses.Use.{Use}
use Rattle.greedy_column.specs.Uses.{AreSorted, is_past, next_at, next_after}

later_test : (n m c k : ℕ) → (ltb n m || (eqb n m && leb c k)) ≡ true → (eqb n m && ltb k c) ≡ false
later_test n m c k past = grind (arith, nat_tests)

pub other_test : (n m c k : ℕ) → n ≢ m → (eqb n m && ltb c k) ≡ false
other_test n m c k other = grind (arith, nat_tests)

here_test : (n m c k : ℕ) → (ltb n m || (eqb n m && leb c k)) ≡ false → n ≡ m → (eqb n m && ltb k c) ≡ true
here_test n m c k past same = grind (arith, nat_tests)

above_test : (n m c k : ℕ) → (ltb n m || (eqb n m && leb c k)) ≡ false → n ≢ m → m < n
above_test n m c k past other = grind (arith, nat_tests)

-- where no use of a list is of a net, none tells its next pins
pub none_of_net : (uses : List Use) (column net : ℕ) → ((k : ℕ) (d : Use) → k < length uses → (get_or uses k d).net ≢ net) → next_after uses column net ≡ Ends
none_of_net [] column net other = refl
none_of_net (u ∷ uses) column net other =
    cond-false (eqb u.net net && ltb column u.column) u.next (next_after uses column net) (other_test u.net net column u.column (other 0 u (omega arith)))
    ∙ none_of_net uses column net (λ k d within. other (suc k) d (omega arith))

-- where the uses up to a place lie before a column of a net and the others behind it, the next of the net is told at the place
pub next_after-at : (uses : List Use) (column net place : ℕ) → AreSorted uses
    → AllWithin (λ u. is_past net column u ≡ true) uses 0 place → AllWithin (λ u. is_past net column u ≡ false) uses place (length uses)
    → next_after uses column net ≡ next_at net (slice_get uses place)
next_after-at [] column net place sorted before behind = refl
next_after-at (u ∷ uses) column net zero sorted before behind =
    let past : (ltb u.net net || (eqb u.net net && leb u.column column)) ≡ false = behind 0 u (omega arith) (omega arith) in
    elim (cases_eq u.net net) [
      | inl same ↦
          cond-true (eqb u.net net && ltb column u.column) u.next (next_after uses column net) (here_test u.net net u.column column past same)
          ∙ sym (cond-true (eqb u.net net) u.next Ends (eq-eqb u.net net same))
      | inr other ↦
          let above : net < u.net = above_test u.net net u.column column past other in
          none_of_net (u ∷ uses) column net (λ k d within. let least = (sorted 0 k d (omega arith) within).nets in omega (arith, least, above))
          ∙ sym (cond-false (eqb u.net net) u.next Ends (ne_eqb u.net net other))
    ]
next_after-at (u ∷ uses) column net (suc place) sorted before behind =
    cond-false (eqb u.net net && ltb column u.column) u.next (next_after uses column net)
    (later_test u.net net u.column column (before 0 u (omega arith) (omega arith)))
    ∙ next_after-at uses column net place (λ i j d order within. sorted (suc i) (suc j) d (omega arith) (omega arith))
    (λ k d low high. before (suc k) d (omega arith) (omega arith)) (λ k d low high. behind (suc k) d (omega arith) (omega arith))

past_test : (n m a b k c : ℕ) → n ≤ m → (n ≡ m → a ≤ b) → (ltb m c || (eqb m c && leb b k)) ≡ true → (ltb n c || (eqb n c && leb a k)) ≡ true
past_test n m a b k c nets columns past = elim (cases_eq n m) [
  | inl same ↦ let less : a ≤ b = columns same in grind (arith, nat_tests)
  | inr other ↦ grind (arith, nat_tests)
]

-- the uses before a column of a net stand in front
pub is_past-partitions : (uses : List Use) (net column i j : ℕ) (d : Use) → AreSorted uses → i ≤ j → j < length uses
    → is_past net column (get_or uses j d) ≡ true → is_past net column (get_or uses i d) ≡ true
is_past-partitions uses net column i j d sorted order within past =
    let u = get_or uses i d in
    let v = get_or uses j d in
    let ordered = sorted i j d order within in
    past_test u.net v.net u.column v.column column net ordered.nets ordered.columns past
