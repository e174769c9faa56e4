use Rattle.std.proofs.Common.{◌≡◌, ◌⊎◌, inl, inr, ◌<◌, ◌≤◌, ◌+◌, ◌-◌, ◌++◌, ◌&&◌, ◌≢◌, not, eqb, ltb, ℕ, zero, suc, List, [], ◌∷◌, Bool, true, false, cond, length, get_or, filter, drop, refl, sym, subst, ap, ◌∙◌, arith, add-zero, eqb-true, eq-eqb}
use Rattle.std.proofs.lemmas.Bool.{cases_eq, cond-true, cond-false, ne_eqb}
use Rattle.std.proofs.lemmas.Bool.Decides.{nat_tests}
use Rattle.std.proofs.lemmas.List.{append_assoc}
use Rattle.std.proofs.lemmas.List.Sorted.{ties_still_rise}
use Rattle.std.specs.Ordering.{nat_cmp, is_lt}
use Rattle.std.specs.List.Sorted.{IsSortedByKey, IsStableByKey, IsNonDecreasingBy, ties}
use Rattle.channel_model.specs.Pins.{Pins}
use Rattle.choose_core.specs.declared.candidate.Next.{Next}
use Rattle.choose_core.specs.declared.candidate.Next.TheVariants.{Ends, Top, Bottom, Both}
use Rattle.greedy_column.specs.declared.uses.Use.{Use}
use Rattle.greedy_column.specs.Uses.{AreSorted, IsBefore, next_after, use_at, uses_at, uses_from}
use Rattle.greedy_column.specs.Ahead.{next_of, first_in}
use Rattle.std_laws.proofs.Tests.{cmp-not-less}

-- the columns of uses do not fall, and the first is at least this one
abbrev pub Rise : ℕ → List Use → Type 0
Rise column [] = Unit {0}
Rise column (u ∷ uses) = (column ≤ u.column) × Rise u.column uses

rise_from : (low high : ℕ) (uses : List Use) → low ≤ high → Rise high uses → Rise low uses
rise_from low high [] order rise = tt
rise_from low high (u ∷ uses) order rise = (omega (arith, rise.0), rise.1)

rise_behind : (net column : ℕ) (next : Next) (uses : List Use) → Rise column uses → Rise column (use_at net column next ++ uses)
rise_behind net column next uses rise = step (eqb net 0) net column next uses rise where
  step : (b : Bool) (net column : ℕ) (next : Next) (uses : List Use) → Rise column uses
      → Rise column (cond b [] (record { net = net; column = column; next = next } ∷ []) ++ uses)
  step true net column next uses rise = rise
  step false net column next uses rise = (omega arith, rise)

pub uses_from-rise : (top bottom : List ℕ) (column : ℕ) → Rise column (uses_from top bottom column)
uses_from-rise [] bottom column = tt
uses_from-rise (a ∷ top) [] column = tt
uses_from-rise (a ∷ top) (b ∷ bottom) column =
    let later : Rise column (uses_from top bottom (suc column)) =
    rise_from column (suc column) (uses_from top bottom (suc column)) (omega arith) (uses_from-rise top bottom (suc column)) in
    step (eqb a b) a b column (uses_from top bottom (suc column)) later where
      step : (same : Bool) (a b column : ℕ) (uses : List Use) → Rise column uses
          → Rise column (cond same (use_at a column Both) (use_at a column Top ++ use_at b column Bottom) ++ uses)
      step true a b column uses later = rise_behind a column Both uses later
      step false a b column uses later =
          rw append_assoc (rise_behind a column Top (use_at b column Bottom ++ uses) (rise_behind b column Bottom uses later))

rise_step : (column : ℕ) (uses : List Use) (k : ℕ) (d : Use) → Rise column uses → k + 1 < length uses → (get_or uses k d).column ≤ (get_or uses (k + 1) d).column
rise_step column [] k d rise within = absurd (omega arith)
rise_step column (u ∷ []) k d rise within = absurd (omega arith)
rise_step column (u ∷ (v ∷ uses)) zero d rise within = rise.1.0
rise_step column (u ∷ (v ∷ uses)) (suc k) d rise within =
    let later = rise_step u.column (v ∷ uses) k d rise.1 (omega arith) in
    let e : suc k + 1 ≡ suc (k + 1) = omega arith in
    rw e later

pub rise_sorted : (column : ℕ) (uses : List Use) → Rise column uses → IsSortedByKey (λ (u : Use). u.column) nat_cmp uses
rise_sorted column uses rise k d low high = cmp-not-less _ _ (rise_step column uses k d rise high)

-- uses that ascend by net, and by column where two neighbours are of one net, are sorted
sorted_by : (uses : List Use) (i n : ℕ) (d : Use) → IsNonDecreasingBy (λ (u : Use). u.net) uses
    → ((k : ℕ) (d : Use) → k + 1 < length uses → (get_or uses k d).net ≡ (get_or uses (k + 1) d).net → (get_or uses k d).column ≤ (get_or uses (k + 1) d).column)
    → i + n < length uses → IsBefore (get_or uses i d) (get_or uses (i + n) d)
sorted_by uses i zero d nets rises within = rw add-zero (record { nets = omega arith; columns = λ same. omega arith })
sorted_by uses i (suc n) d nets rises within =
    let before = sorted_by uses i n d nets rises (omega arith) in
    let step : (get_or uses (i + n) d).net ≤ (get_or uses (i + n + 1) d).net = nets (i + n) (i + n + 1) d (omega arith) (omega arith) in
    let e : i + suc n ≡ i + n + 1 = omega arith in
    rw e (record {
      nets = omega (arith, before.nets, step);
      columns = λ same.
          let first : (get_or uses i d).net ≡ (get_or uses (i + n) d).net = omega (arith, before.nets, step, same) in
          let second : (get_or uses (i + n) d).net ≡ (get_or uses (i + n + 1) d).net = omega (arith, before.nets, step, same) in
          omega (arith, before.columns first, rises (i + n) d (omega arith) second);
    })

pub AreSorted-from_sort : (column : ℕ) (xs ys : List Use) → Rise column xs → IsNonDecreasingBy (λ (u : Use). u.net) ys
    → IsStableByKey (λ (u : Use). u.net) nat_cmp xs ys → AreSorted ys
AreSorted-from_sort column xs ys rise nets stable i j d order within =
    let e : i + (j - i) ≡ j = omega arith in
    rw e at (sorted_by ys i (j - i) d nets
    (λ k d near same. ties_still_rise (λ (u : Use). u.column) (λ (u : Use). u.net) xs ys (rise_sorted column xs rise) stable k d near same) (omega arith))

-- only the uses of a net tell its next pins
next_after-filter : (p : Use → Bool) (uses : List Use) (column net : ℕ) → ((u : Use) → eqb u.net net ≡ true → p u ≡ true)
    → next_after (filter p uses) column net ≡ next_after uses column net
next_after-filter p [] column net keeps = refl
next_after-filter p (u ∷ uses) column net keeps =
    step (p u) (eqb u.net net) u (filter p uses) uses column net (keeps u) refl (next_after-filter p uses column net keeps) where
      step : (b c : Bool) (u : Use) (some all : List Use) (column net : ℕ) → (c ≡ true → b ≡ true) → eqb u.net net ≡ c
          → next_after some column net ≡ next_after all column net
          → next_after (cond b (u ∷ some) some) column net ≡ cond (eqb u.net net && ltb column u.column) u.next (next_after all column net)
      step true c u some all column net keeps is same = ap (λ z. cond (eqb u.net net && ltb column u.column) u.next z) same
      step false true u some all column net keeps is same = absurd (cc (keeps refl))
      step false false u some all column net keeps is same =
          same ∙ sym (cond-false (eqb u.net net && ltb column u.column) u.next (next_after all column net) (ap (λ z. z && ltb column u.column) is))

pub next_after-stable : (xs ys : List Use) (column net : ℕ) → IsStableByKey (λ (u : Use). u.net) nat_cmp xs ys
    → next_after ys column net ≡ next_after xs column net
next_after-stable xs ys column net stable =
    let one : Use = record { net = net; column = 0; next = Ends } in
    let p : Use → Bool = ties (λ (x y : Use). is_lt (nat_cmp x.net y.net)) one in
    let keeps : (u : Use) → eqb u.net net ≡ true → p u ≡ true = λ u same.
    let e : u.net ≡ net = eqb-true u.net net same in
    let a : is_lt (nat_cmp net u.net) ≡ false = cmp-not-less net u.net (omega (arith, e)) in
    let b : is_lt (nat_cmp u.net net) ≡ false = cmp-not-less u.net net (omega (arith, e)) in
    ap (λ z. not z && not (is_lt (nat_cmp u.net net))) a ∙ ap (λ z. not false && not z) b in
    sym (next_after-filter p ys column net keeps) ∙ ap (λ (l : List Use). next_after l column net) (stable one) ∙ next_after-filter p xs column net keeps

-- the uses of a column of pins tell of no net but theirs
behind_use : (a column at net : ℕ) (next : Next) (uses : List Use) → (net ≢ a) ⊎ (at ≤ column) → 0 < net ⊎ (net ≡ 0)
    → next_after (use_at a at next ++ uses) column net ≡ next_after uses column net
behind_use a column at net next uses apart positive = elim (cases_eq a 0) [
  | inl none ↦ subst (λ b. next_after (cond b [] (record { net = a; column = at; next = next } ∷ []) ++ uses) column net ≡ next_after uses column net)
      (sym (eq-eqb a 0 none)) refl
  | inr some ↦ subst (λ b. next_after (cond b [] (record { net = a; column = at; next = next } ∷ []) ++ uses) column net ≡ next_after uses column net)
      (sym (ne_eqb a 0 some)) (cond-false (eqb a net && ltb column at) next (next_after uses column net) (test a column at net some apart positive))
] where
  test : (a column at net : ℕ) → a ≢ 0 → (net ≢ a) ⊎ (at ≤ column) → 0 < net ⊎ (net ≡ 0) → (eqb a net && ltb column at) ≡ false
  test a column at net some (inl other) positive = grind (arith, nat_tests)
  test a column at net some (inr before) positive = grind (arith, nat_tests)

at_use : (a column at : ℕ) (next : Next) (uses : List Use) → 0 < a → column < at → next_after (use_at a at next ++ uses) column a ≡ next
at_use a column at next uses positive later =
    subst (λ b. next_after (cond b [] (record { net = a; column = at; next = next } ∷ []) ++ uses) column a ≡ next)
    (sym (ne_eqb a 0 (λ none. omega (arith, none, positive)))) (cond-true (eqb a a && ltb column at) next (next_after uses column a) (test a column at later)) where
      test : (a column at : ℕ) → column < at → (eqb a a && ltb column at) ≡ true
      test a column at later = grind (arith, nat_tests)

-- columns up to the one asked about are passed over
past_uses : (a b column at net : ℕ) (uses : List Use) → at ≤ column → next_after (uses_at a b at ++ uses) column net ≡ next_after uses column net
past_uses a b column at net uses past = step (eqb a b) a b column at net uses past (elim (cases_eq net 0) [ inl none ↦ inr none | inr some ↦ inl (omega arith) ]) where
  step : (same : Bool) (a b column at net : ℕ) (uses : List Use) → at ≤ column → 0 < net ⊎ (net ≡ 0)
      → next_after (cond same (use_at a at Both) (use_at a at Top ++ use_at b at Bottom) ++ uses) column net ≡ next_after uses column net
  step true a b column at net uses past positive = behind_use a column at net Both uses (inr past) positive
  step false a b column at net uses past positive =
      rw append_assoc (behind_use a column at net Top (use_at b at Bottom ++ uses) (inr past) positive ∙ behind_use b column at net Bottom uses (inr past) positive)

-- a later column tells of its pins
here_uses : (a b column at net : ℕ) (uses : List Use) → column < at → 0 < net → next_after (uses_at a b at ++ uses) column net
    ≡ cond (eqb a net) (cond (eqb b net) Both Top) (cond (eqb b net) Bottom (next_after uses column net))
here_uses a b column at net uses later positive = elim (cases_eq a b) [
  | inl same ↦ equal a b column at net uses later positive same
  | inr other ↦ subst (λ t. next_after (cond t (use_at a at Both) (use_at a at Top ++ use_at b at Bottom) ++ uses) column net
      ≡ cond (eqb a net) (cond (eqb b net) Both Top) (cond (eqb b net) Bottom (next_after uses column net)))
      (sym (ne_eqb a b other)) (rw append_assoc (two a b column at net uses later positive other))
] where
  equal : (a b column at net : ℕ) (uses : List Use) → column < at → 0 < net → a ≡ b → next_after (uses_at a b at ++ uses) column net
      ≡ cond (eqb a net) (cond (eqb b net) Both Top) (cond (eqb b net) Bottom (next_after uses column net))
  equal a b column at net uses later positive same =
      subst (λ t. next_after (cond t (use_at a at Both) (use_at a at Top ++ use_at b at Bottom) ++ uses) column net
      ≡ cond (eqb a net) (cond (eqb b net) Both Top) (cond (eqb b net) Bottom (next_after uses column net)))
      (sym (eq-eqb a b same))
      (elim (cases_eq a net) [
        | inl is ↦
            let first : next_after (use_at a at Both ++ uses) column net ≡ Both =
            subst (λ n. next_after (use_at a at Both ++ uses) column n ≡ Both) is (at_use a column at Both uses (omega (arith, is, positive)) later) in
            first ∙ sym (cond-true (eqb a net) _ _ (eq-eqb a net is) ∙ cond-true (eqb b net) Both Top (eq-eqb b net (sym same ∙ is)))
        | inr apart ↦
            behind_use a column at net Both uses (inl (λ e. apart (sym e))) (inl positive)
            ∙ sym (cond-false (eqb a net) _ _ (ne_eqb a net apart)
            ∙ cond-false (eqb b net) Bottom _ (ne_eqb b net (λ e. apart (same ∙ e))))
      ])

  two : (a b column at net : ℕ) (uses : List Use) → column < at → 0 < net → a ≢ b → next_after (use_at a at Top ++ (use_at b at Bottom ++ uses)) column net
      ≡ cond (eqb a net) (cond (eqb b net) Both Top) (cond (eqb b net) Bottom (next_after uses column net))
  two a b column at net uses later positive other = elim (cases_eq a net) [
    | inl is ↦
        let first : next_after (use_at a at Top ++ (use_at b at Bottom ++ uses)) column net ≡ Top =
        subst (λ n. next_after (use_at a at Top ++ (use_at b at Bottom ++ uses)) column n ≡ Top) is
        (at_use a column at Top (use_at b at Bottom ++ uses) (omega (arith, is, positive)) later) in
        first ∙ sym (cond-true (eqb a net) _ _ (eq-eqb a net is) ∙ cond-false (eqb b net) Both Top (ne_eqb b net (λ e. other (is ∙ sym e))))
    | inr apart ↦
        behind_use a column at net Top (use_at b at Bottom ++ uses) (inl (λ e. apart (sym e))) (inl positive)
        ∙ elim (cases_eq b net) [
          | inl is ↦
              let first : next_after (use_at b at Bottom ++ uses) column net ≡ Bottom =
              subst (λ n. next_after (use_at b at Bottom ++ uses) column n ≡ Bottom) is (at_use b column at Bottom uses (omega (arith, is, positive)) later) in
              first ∙ sym (cond-false (eqb a net) _ _ (ne_eqb a net apart) ∙ cond-true (eqb b net) Bottom _ (eq-eqb b net is))
          | inr gone ↦
              behind_use b column at net Bottom uses (inl (λ e. gone (sym e))) (inl positive)
              ∙ sym (cond-false (eqb a net) _ _ (ne_eqb a net apart) ∙ cond-false (eqb b net) Bottom _ (ne_eqb b net gone))
        ]
  ]

from_here : (top bottom : List ℕ) (column at net : ℕ) → column < at → 0 < net → next_after (uses_from top bottom at) column net ≡ first_in top bottom net
from_here [] bottom column at net later positive = refl
from_here (a ∷ top) [] column at net later positive = refl
from_here (a ∷ top) (b ∷ bottom) column at net later positive =
    here_uses a b column at net (uses_from top bottom (suc at)) later positive
    ∙ ap (λ z. cond (eqb a net) (cond (eqb b net) Both Top) (cond (eqb b net) Bottom z)) (from_here top bottom column (suc at) net (omega arith) positive)

from_there : (top bottom : List ℕ) (column at net skip : ℕ) → at + skip ≡ column + 1 → 0 < net
    → next_after (uses_from top bottom at) column net ≡ first_in (drop skip top) (drop skip bottom) net
from_there top bottom column at net zero later positive = from_here top bottom column at net (omega (arith, later)) positive
from_there [] bottom column at net (suc skip) later positive = refl
from_there (a ∷ top) [] column at net (suc skip) later positive = ends (drop skip top) net where
  ends : (top : List ℕ) (net : ℕ) → Ends ≡ first_in top [] net
  ends [] net = refl
  ends (a ∷ top) net = refl
from_there (a ∷ top) (b ∷ bottom) column at net (suc skip) later positive =
    past_uses a b column at net (uses_from top bottom (suc at)) (omega (arith, later))
    ∙ from_there top bottom column (suc at) net skip (omega (arith, later)) positive

-- 0 is no net
none_for_zero : (top bottom : List ℕ) (column at : ℕ) → next_after (uses_from top bottom at) column 0 ≡ Ends
none_for_zero [] bottom column at = refl
none_for_zero (a ∷ top) [] column at = refl
none_for_zero (a ∷ top) (b ∷ bottom) column at =
    step (eqb a b) a b column at (uses_from top bottom (suc at)) ∙ none_for_zero top bottom column (suc at) where
      none : (a column at : ℕ) (next : Next) (uses : List Use) → next_after (use_at a at next ++ uses) column 0 ≡ next_after uses column 0
      none a column at next uses = elim (cases_eq a 0) [
        | inl is ↦ subst (λ b. next_after (cond b [] (record { net = a; column = at; next = next } ∷ []) ++ uses) column 0 ≡ next_after uses column 0)
            (sym (eq-eqb a 0 is)) refl
        | inr some ↦ behind_use a column at 0 next uses (inl (λ e. some (sym e))) (inr refl)
      ]

      step : (same : Bool) (a b column at : ℕ) (uses : List Use)
          → next_after (cond same (use_at a at Both) (use_at a at Top ++ use_at b at Bottom) ++ uses) column 0 ≡ next_after uses column 0
      step true a b column at uses = none a column at Both uses
      step false a b column at uses = rw append_assoc (none a column at Top (use_at b at Bottom ++ uses) ∙ none b column at Bottom uses)

-- the uses of all pins tell where a net has its next ones
pub next_after-pins : (top bottom : List ℕ) (column net : ℕ)
    → next_after (uses_from top bottom 0) column net ≡ next_of (record { top = top; bottom = bottom }) column net
next_after-pins top bottom column net = elim (cases_eq net 0) [
  | inl none ↦ rw none (none_for_zero top bottom column 0)
  | inr some ↦
      from_there top bottom column 0 net (column + 1) (omega arith) (omega arith)
      ∙ sym (cond-false (eqb net 0) Ends (first_in (drop (column + 1) top) (drop (column + 1) bottom) net) (ne_eqb net 0 some))
]

pub next_of-parts : (pins : Pins) (top bottom : List ℕ) (column net : ℕ) → top ≡ pins.top → bottom ≡ pins.bottom
    → next_of (record { top = top; bottom = bottom }) column net ≡ next_of pins column net
next_of-parts pins top bottom column net first second = λ i. next_of (record { top = first i; bottom = second i }) column net
