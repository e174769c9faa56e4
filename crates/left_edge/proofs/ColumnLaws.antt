use Rattle.std.proofs.Common.{◌≡◌, ◌<◌, ◌⊎◌, eqb, ℕ, inl, inr, refl, sym, ◌∙◌, arith, get_or, length, List, Contains}
use Rattle.std.proofs.lemmas.Bool.{cases_eq, cases_lt, cond-true, cond-false, eq-eqb, ne_eqb}
use Rattle.std.proofs.lemmas.List.{get_or_past}
use Rattle.channel_model.specs.Pins.{Pins, IsChannel}
use Rattle.channel_model.specs.Nets.{StandsIn, nets_of}
use Rattle.channel_model.proofs.NetsOf.{nets-are}
use Rattle.std.specs.List.Sorted.{IsStrictlyIncreasing}
use Rattle.left_edge.specs.Columns.{IsUnconstrained, net_at}

-- two pins of a column are of one net
pub agree : (pins : Pins) → IsUnconstrained pins → (column : ℕ) → 0 < get_or pins.top column 0 → 0 < get_or pins.bottom column 0
    → get_or pins.top column 0 ≡ get_or pins.bottom column 0
agree pins free column top bottom =
    elim (cases_eq (get_or pins.top column 0) (get_or pins.bottom column 0)) [
      | inl same ↦ same
      | inr different ↦ absurd (free column (record { top = top; bottom = bottom; different = different }))
    ]

-- the net of a column is that of its bottom pin
pub net_at-bottom : (pins : Pins) (column : ℕ) → 0 < get_or pins.bottom column 0 → net_at pins column ≡ get_or pins.bottom column 0
net_at-bottom pins column some = cond-false (eqb (get_or pins.bottom column 0) 0) _ _ (ne_eqb _ _ (λ e. omega arith))

-- and that of its top pin
pub net_at-top : (pins : Pins) → IsUnconstrained pins → (column : ℕ) → 0 < get_or pins.top column 0 → net_at pins column ≡ get_or pins.top column 0
net_at-top pins free column some =
    elim (cases_eq (get_or pins.bottom column 0) 0) [
      | inl none ↦ cond-true (eqb (get_or pins.bottom column 0) 0) _ _ (eq-eqb _ _ none)
      | inr pin ↦
          let below : 0 < get_or pins.bottom column 0 = omega arith in
          net_at-bottom pins column below ∙ sym (agree pins free column some below)
    ]

-- and of no other
pub net_at-cases : (pins : Pins) (column net : ℕ) → net_at pins column ≡ net → (get_or pins.top column 0 ≡ net) ⊎ (get_or pins.bottom column 0 ≡ net)
net_at-cases pins column net is =
    elim (cases_eq (get_or pins.bottom column 0) 0) [
      | inl none ↦ inl (sym (cond-true (eqb (get_or pins.bottom column 0) 0) _ _ (eq-eqb _ _ none)) ∙ is)
      | inr pin ↦ inr (sym (cond-false (eqb (get_or pins.bottom column 0) 0) _ _ (ne_eqb _ _ pin)) ∙ is)
    ]

-- a net of a column stands in the channel
pub stands_at : (pins : Pins) (column net : ℕ) → 0 < net → net_at pins column ≡ net → StandsIn pins net
stands_at pins column net some is = (some, (column, net_at-cases pins column net is))

-- a net that stands in the channel has a column
pub column_of : (pins : Pins) → IsUnconstrained pins → (net : ℕ) → StandsIn pins net → (column : ℕ) × (net_at pins column ≡ net)
column_of pins free net stands =
    let column = stands.1.0 in
    let some = stands.0 in
    elim stands.1.1 [
      | inl top ↦ (column, net_at-top pins free column (omega arith) ∙ top)
      | inr bottom ↦ (column, net_at-bottom pins column (omega arith) ∙ bottom)
    ]

-- which lies in the channel
pub net_at-within : (pins : Pins) → IsChannel pins → (column : ℕ) → 0 < net_at pins column → column < length pins.top
net_at-within pins channel column some =
    elim (cases_lt column (length pins.top)) [
      | inl within ↦ within
      | inr past ↦
          let matched = channel.matched in
          let top = get_or_past pins.top column 0 past in
          let bottom = get_or_past pins.bottom column 0 (omega arith) in
          elim (net_at-cases pins column (net_at pins column) refl) [
            | inl is ↦ absurd (omega arith)
            | inr is ↦ absurd (omega arith)
          ]
    ]

-- the net of a column is listed
pub listed_net : (pins : Pins) (nets : List ℕ) (column : ℕ) → nets ≡ nets_of pins → 0 < net_at pins column → Contains nets (net_at pins column)
listed_net pins nets column are some = rw are ((nets-are pins).listed (net_at pins column) (stands_at pins column (net_at pins column) some refl))

pub ascending_nets : (pins : Pins) (nets : List ℕ) → nets ≡ nets_of pins → IsStrictlyIncreasing nets
ascending_nets pins nets are = rw are (nets-are pins).ascending
