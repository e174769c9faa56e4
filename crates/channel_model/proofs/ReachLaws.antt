use Rattle.std.proofs.Common.{◌≡◌, ◌≢◌, ◌<◌, ◌≤◌, ◌+◌, eqb, ℕ, zero, suc, List, Option, Some, None, inl, inr, sym, ◌∙◌, arith, Contains, length, get_or, map, set, add-one}
use Rattle.std.proofs.lemmas.Bool.{cases_eq, cond_both, cond-true, cond-false, eqb-true, eqb-false, eq-eqb, ne_eqb}
use Rattle.std.proofs.lemmas.List.{same_lists, get_or-map, get_or-set_same, get_or-set_other, length-map, length-set}
use Rattle.std.proofs.lemmas.List.Elements.{Contains-get_or}
use Rattle.std.specs.List.Sorted.{IsStrictlyIncreasing}
use Rattle.channel_model.specs.declared.reach.Reach.{Reach}
use Rattle.channel_model.specs.Pins.{Pins}
use Rattle.channel_model.specs.Reach.{reach_to, reach_of, joined, span_of, IsReach}
use Rattle.std_laws.proofs.Increasing.{increasing-same}

-- a reach has all pins of a net among the first columns of an edge, and pins at both ends
pub record Reaches (side : List ℕ) (net columns : ℕ) (reach : Reach) : Type 0 where
  pub ordered : reach.first ≤ reach.last
  pub within : reach.last < columns
  pub starts : get_or side reach.first 0 ≡ net
  pub ends : get_or side reach.last 0 ≡ net
  pub between : (k : ℕ) → k < columns → get_or side k 0 ≡ net → (reach.first ≤ k) × (k ≤ reach.last)

-- where there is no reach there is no pin
abbrev pub ReachesAll : List ℕ → ℕ → ℕ → Option Reach → Type 0
ReachesAll side net columns None = (k : ℕ) → k < columns → get_or side k 0 ≢ net
ReachesAll side net columns (Some reach) = Reaches side net columns reach

with_pin : (side : List ℕ) (net n : ℕ) (o : Option Reach) → ReachesAll side net n o → get_or side n 0 ≡ net → ReachesAll side net (suc n) (Some (reach_to o n))
with_pin side net n None none here = record {
  ordered = omega arith;
  within = omega arith;
  starts = here;
  ends = here;
  between = λ k below at. elim (cases_eq k n) [
    | inl e ↦ (omega arith, omega arith)
    | inr ne ↦ absurd (none k (omega arith) at)
  ];
}
with_pin side net n (Some r) some here = record {
  ordered = omega (arith, some.ordered, some.within);
  within = omega arith;
  starts = some.starts;
  ends = here;
  between = λ k below at. elim (cases_eq k n) [
    | inl e ↦ (omega (arith, some.ordered, some.within), omega arith)
    | inr ne ↦ ((some.between k (omega arith) at).0, omega arith)
  ];
}

without_pin : (side : List ℕ) (net n : ℕ) (o : Option Reach) → ReachesAll side net n o → get_or side n 0 ≢ net → ReachesAll side net (suc n) o
without_pin side net n None none here = λ k below at. elim (cases_eq k n) [
  | inl e ↦ here (rw e at at)
  | inr ne ↦ none k (omega arith) at
]
without_pin side net n (Some r) some here = record {
  ordered = some.ordered;
  within = omega (arith, some.within);
  starts = some.starts;
  ends = some.ends;
  between = λ k below at. elim (cases_eq k n) [
    | inl e ↦ absurd (here (rw e at at))
    | inr ne ↦ some.between k (omega arith) at
  ];
}

-- what a reach says of the pins
pub reach_of-all : (side : List ℕ) (net n : ℕ) → ReachesAll side net n (reach_of side net n)
reach_of-all side net zero = λ k below at. omega arith
reach_of-all side net (suc n) =
    cond_both (eqb (get_or side n 0) net) (Some (reach_to (reach_of side net n) n)) (reach_of side net n) (ReachesAll side net (suc n))
    (λ t. with_pin side net n (reach_of side net n) (reach_of-all side net n) (eqb-true _ _ t))
    (λ f. without_pin side net n (reach_of side net n) (reach_of-all side net n) (eqb-false _ _ f))

-- a column without a pin of a net leaves its reach
pub reach_of-other : (side : List ℕ) (net n : ℕ) → get_or side n 0 ≢ net → reach_of side net (suc n) ≡ reach_of side net n
reach_of-other side net n other = cond-false (eqb (get_or side n 0) net) _ _ (ne_eqb _ _ other)

pub reach_of-here : (side : List ℕ) (net n : ℕ) → get_or side n 0 ≡ net → reach_of side net (suc n) ≡ Some (reach_to (reach_of side net n) n)
reach_of-here side net n here = cond-true (eqb (get_or side n 0) net) _ _ (eq-eqb _ _ here)

-- a column without a pin leaves all reaches
pub reaches-skip : (side nets : List ℕ) (n : ℕ) → ((net : ℕ) → Contains nets net → 0 < net) → get_or side n 0 ≡ 0
    → map (λ net. reach_of side net (n + 1)) nets ≡ map (λ net. reach_of side net n) nets
reaches-skip side nets n positive none =
    same_lists (map (λ net. reach_of side net (n + 1)) nets) (map (λ net. reach_of side net n) nets)
    (length-map nets _ ∙ sym (length-map nets _))
    (λ k d below.
    let within : k < length nets = omega (arith, below, length-map nets (λ net. reach_of side net (n + 1))) in
    let some : 0 < get_or nets k 0 = positive (get_or nets k 0) (Contains-get_or nets k 0 within) in
    let other : get_or side n 0 ≢ get_or nets k 0 = omega arith in
    get_or-map (λ net. reach_of side net (n + 1)) nets k 0 d within
    ∙ rw add-one (reach_of-other side (get_or nets k 0) n other)
    ∙ sym (get_or-map (λ net. reach_of side net n) nets k 0 d within))

-- a column with a pin sets the reach of its net alone
pub reaches-set : (side nets : List ℕ) (n i : ℕ) (was : Option Reach) → IsStrictlyIncreasing nets → i < length nets → get_or nets i 0 ≡ get_or side n 0
    → was ≡ get_or (map (λ net. reach_of side net n) nets) i was
    → map (λ net. reach_of side net (n + 1)) nets ≡ set (map (λ net. reach_of side net n) nets) i (Some (reach_to was n))
reaches-set side nets n i was ascending there at read =
    let before : List (Option Reach) = map (λ net. reach_of side net n) nets in
    let is : was ≡ reach_of side (get_or nets i 0) n = read ∙ get_or-map (λ net. reach_of side net n) nets i 0 was there in
    same_lists (map (λ net. reach_of side net (n + 1)) nets) (set before i (Some (reach_to was n)))
    (length-map nets _ ∙ sym (length-map nets _) ∙ sym (length-set before i (Some (reach_to was n))))
    (λ k d below.
    let within : k < length nets = omega (arith, below, length-map nets (λ net. reach_of side net (n + 1))) in
    let in_before : i < length before = omega (arith, there, length-map nets (λ net. reach_of side net n)) in
    get_or-map (λ net. reach_of side net (n + 1)) nets k 0 d within
    ∙ elim (cases_eq k i) [
      | inl e ↦ rw (e, add-one, get_or-set_same before i (Some (reach_to was n)) d in_before, is)
          (reach_of-here side (get_or nets i 0) n (sym at))
      | inr ne ↦
          let apart : get_or side n 0 ≢ get_or nets k 0 =
          λ same. ne (increasing-same nets k i ascending within there (sym same ∙ sym at)) in
          rw (add-one, get_or-set_other before i k (Some (reach_to was n)) d ne)
          (reach_of-other side (get_or nets k 0) n apart ∙ sym (get_or-map (λ net. reach_of side net n) nets k 0 d within))
    ])

-- a reach, where there is one, lies within these columns
abbrev pub LiesWithin : ℕ → Option Reach → Type 0
LiesWithin columns None = Unit {0}
LiesWithin columns (Some reach) = IsReach columns reach

within_from_all : (side : List ℕ) (net n : ℕ) (o : Option Reach) → ReachesAll side net n o → LiesWithin n o
within_from_all side net n None none = tt
within_from_all side net n (Some r) some = record { ordered = some.ordered; within = some.within }

joined-within : (n : ℕ) (a b : Option Reach) → LiesWithin n a → LiesWithin n b → LiesWithin n (joined a b)
joined-within n None b first second = second
joined-within n (Some a) None first second = first
joined-within n (Some a) (Some b) first second = record {
  ordered = omega (arith, first.ordered, second.ordered);
  within = omega (arith, first.within, second.within);
}

-- the span of a net lies within the channel
pub span_of-within : (pins : Pins) (net : ℕ) → length pins.top ≡ length pins.bottom → LiesWithin (length pins.top) (span_of pins net)
span_of-within pins net matched =
    joined-within (length pins.top) (reach_of pins.top net (length pins.top)) (reach_of pins.bottom net (length pins.bottom))
    (within_from_all pins.top net (length pins.top) _ (reach_of-all pins.top net (length pins.top)))
    (rw matched (within_from_all pins.bottom net (length pins.bottom) _ (reach_of-all pins.bottom net (length pins.bottom))))
