use Rattle.std.proofs.Common.{◌≡◌, ◌≢◌, ◌⊎◌, inl, inr, ◌<◌, ◌+◌, ◌-◌, eqb, ℕ, zero, suc, List, [], ◌∷◌, Bool, true, false, cond, length, drop, get_or, refl, sym, ap, ◌∙◌, arith, eq-eqb, length-drop}
use Rattle.std.proofs.lemmas.Bool.{cond-false, ne_eqb, cases_eq}
use Rattle.channel_model.specs.Pins.{Pins}
use Rattle.choose_core.specs.declared.candidate.Next.TheVariants.{Ends, Top, Bottom, Both}
use Rattle.greedy_column.specs.Ahead.{HasLaterPin, first_in, next_of}
use Rattle.greedy_column.specs.Entering.{is_ending}
use Rattle.std.proofs.lemmas.List.{get_or-drop}

-- a net stands in one of these columns
abbrev Stands : List ℕ → List ℕ → ℕ → Type 0
Stands top bottom net = (k : ℕ) × ((get_or top k 0 ≡ net) ⊎ (get_or bottom k 0 ≡ net))

passed_over : (a b net : ℕ) (top bottom : List ℕ) → a ≢ net → b ≢ net → first_in (a ∷ top) (b ∷ bottom) net ≡ first_in top bottom net
passed_over a b net top bottom other gone =
    cond-false (eqb a net) (cond (eqb b net) Both Top) (cond (eqb b net) Bottom (first_in top bottom net)) (ne_eqb a net other)
    ∙ cond-false (eqb b net) Bottom (first_in top bottom net) (ne_eqb b net gone)

stands_where : (top bottom : List ℕ) (net : ℕ) → is_ending (first_in top bottom net) ≡ false → Stands top bottom net
stands_where [] bottom net goes_on = absurd (cc goes_on)
stands_where (a ∷ top) [] net goes_on = absurd (cc goes_on)
stands_where (a ∷ top) (b ∷ bottom) net goes_on = elim (cases_eq a net) [
  | inl here ↦ (0, inl here)
  | inr other ↦ elim (cases_eq b net) [
    | inl below ↦ (0, inr below)
    | inr gone ↦ let rest = stands_where top bottom net (sym (ap is_ending (passed_over a b net top bottom other gone)) ∙ goes_on) in (suc rest.0, rest.1)
  ]
]

-- after the last of some columns no net stands
nowhere : (k net : ℕ) → 0 < net → get_or [] k 0 ≡ net → ⊥
nowhere zero net some at = omega (arith, at, some)
nowhere (suc k) net some at = omega (arith, at, some)

ends_at : (a b net : ℕ) (top bottom : List ℕ) → (a ≡ net) ⊎ (b ≡ net) → is_ending (first_in (a ∷ top) (b ∷ bottom) net) ≡ false
ends_at a b net top bottom stands = step (eqb a net) (eqb b net) stands refl refl where
  step : (c d : Bool) → (a ≡ net) ⊎ (b ≡ net) → eqb a net ≡ c → eqb b net ≡ d
      → is_ending (cond c (cond d Both Top) (cond d Bottom (first_in top bottom net))) ≡ false
  step true true stands first second = refl
  step true false stands first second = refl
  step false true stands first second = refl
  step false false (inl same) first second = absurd (cc (eq-eqb a net same, first))
  step false false (inr same) first second = absurd (cc (eq-eqb b net same, second))

goes_on_where : (top bottom : List ℕ) (net k : ℕ) → length top ≡ length bottom → 0 < net → (get_or top k 0 ≡ net) ⊎ (get_or bottom k 0 ≡ net)
    → is_ending (first_in top bottom net) ≡ false
goes_on_where [] [] net k matched some stands = elim stands [ inl at ↦ absurd (nowhere k net some at) | inr at ↦ absurd (nowhere k net some at) ]
goes_on_where [] (b ∷ bottom) net k matched some stands = absurd (omega arith)
goes_on_where (a ∷ top) [] net k matched some stands = absurd (omega arith)
goes_on_where (a ∷ top) (b ∷ bottom) net zero matched some stands = ends_at a b net top bottom stands
goes_on_where (a ∷ top) (b ∷ bottom) net (suc k) matched some stands = elim (cases_eq a net) [
  | inl here ↦ ends_at a b net top bottom (inl here)
  | inr other ↦ elim (cases_eq b net) [
    | inl below ↦ ends_at a b net top bottom (inr below)
    | inr gone ↦ ap is_ending (passed_over a b net top bottom other gone) ∙ goes_on_where top bottom net k (omega arith) some stands
  ]
]

-- a net whose next pins are told has a later pin
pub HasLaterPin-from : (pins : Pins) (column net : ℕ) → 0 < net → is_ending (next_of pins column net) ≡ false → HasLaterPin pins column net
HasLaterPin-from pins column net some goes_on =
    let is : next_of pins column net ≡ first_in (drop (column + 1) pins.top) (drop (column + 1) pins.bottom) net =
    cond-false (eqb net 0) Ends (first_in (drop (column + 1) pins.top) (drop (column + 1) pins.bottom) net) (ne_eqb net 0 (λ none. omega (arith, none, some))) in
    let found = stands_where (drop (column + 1) pins.top) (drop (column + 1) pins.bottom) net (sym (ap is_ending is) ∙ goes_on) in (
      column + 1 + found.0,
      omega arith,
      elim found.1 [
        | inl top ↦ inl (sym (get_or-drop (column + 1) pins.top found.0 0) ∙ top)
        | inr bottom ↦ inr (sym (get_or-drop (column + 1) pins.bottom found.0 0) ∙ bottom)
      ],
    )

-- and a later pin is told
pub goes_on-from_later : (pins : Pins) (column net : ℕ) → length pins.top ≡ length pins.bottom → 0 < net → HasLaterPin pins column net
    → is_ending (next_of pins column net) ≡ false
goes_on-from_later pins column net matched some later =
    let is : next_of pins column net ≡ first_in (drop (column + 1) pins.top) (drop (column + 1) pins.bottom) net =
    cond-false (eqb net 0) Ends (first_in (drop (column + 1) pins.top) (drop (column + 1) pins.bottom) net) (ne_eqb net 0 (λ none. omega (arith, none, some))) in
    let k : ℕ = later.0 - (column + 1) in
    let at : column + 1 + k ≡ later.0 = omega (arith, later.1) in
    let same : length (drop (column + 1) pins.top) ≡ length (drop (column + 1) pins.bottom) =
    omega (arith, length-drop (column + 1) pins.top, length-drop (column + 1) pins.bottom, matched) in
    ap is_ending is ∙ goes_on_where (drop (column + 1) pins.top) (drop (column + 1) pins.bottom) net k same some (elim later.2 [
      | inl top ↦ inl (get_or-drop (column + 1) pins.top k 0 ∙ ap (λ m. get_or pins.top m 0) at ∙ top)
      | inr bottom ↦ inr (get_or-drop (column + 1) pins.bottom k 0 ∙ ap (λ m. get_or pins.bottom m 0) at ∙ bottom)
    ])
