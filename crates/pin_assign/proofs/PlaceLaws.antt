use Rattle.std.proofs.Common.{◌≡◌, ◌≢◌, ◌<◌, ◌≤◌, ℕ, Bool, true, false, refl, ap, sym, ◌∙◌, inl, inr, arith}
use Rattle.std.proofs.lemmas.Bool.{cases_eq}
use Rattle.channel_model.specs.Pins.{ArePaired, Pins, pin_count}
use Rattle.pin_assign.proofs.TablePlaces.{TablePlace, entry_at}
use Rattle.std_laws.proofs.Counts.{times, times-apart, times-one, times-place}

abbrev place_at : Bool → ℕ → TablePlace
place_at upper column = record { upper = upper; column = column }

-- places in one list and one column are one
pub same-place : (a b : TablePlace) → a.upper ≡ b.upper → a.column ≡ b.column → a ≡ b
same-place a b upper column = ap (λ (u : Bool). place_at u a.column) upper ∙ ap (place_at b.upper) column

-- a net that stands at two different places of a table has two pins or more
pub two-places : (pins : Pins) (net : ℕ) → 0 < net → (a b : TablePlace) → a ≢ b → entry_at pins a ≡ net → entry_at pins b ≡ net → 2 ≤ pin_count pins net
two-places pins net some a b differ first second = by a.upper b.upper refl refl
  where
    by : (u v : Bool) → a.upper ≡ u → b.upper ≡ v → 2 ≤ pin_count pins net
    by true true p q = grind (arith, times-apart net pins.top a.column b.column some (λ e. differ (same-place a b (p ∙ sym q) e)))
    by true false p q = grind (arith, times-one net pins.top a.column some, times-one net pins.bottom b.column some)
    by false true p q = grind (arith, times-one net pins.bottom a.column some, times-one net pins.top b.column some)
    by false false p q = grind (arith, times-apart net pins.bottom a.column b.column some (λ e. differ (same-place a b (p ∙ sym q) e)))

-- a net with a pin stands at a place
pub place-of_count : (pins : Pins) (net : ℕ) → 1 ≤ pin_count pins net → (a : TablePlace) × (entry_at pins a ≡ net)
place-of_count pins net one =
    elim (cases_eq (times net pins.top) 0) [
      | inl none ↦ let at = times-place net pins.bottom (omega arith) in (record { upper = false; column = at.0 }, at.1)
      | inr some ↦ let at = times-place net pins.top (omega arith) in (record { upper = true; column = at.0 }, at.1)
    ]

-- two different places of a net
pub record TwoPlaces (pins : Pins) (net : ℕ) : Type 0 where
  pub first : TablePlace
  pub second : TablePlace
  pub at_first : entry_at pins first ≡ net
  pub at_second : entry_at pins second ≡ net
  pub differ : first ≢ second

-- where each net with a place has two, no net has one pin
pub paired-from-places : (pins : Pins) → ((net : ℕ) (place : TablePlace) → 0 < net → entry_at pins place ≡ net → TwoPlaces pins net) → ArePaired pins
paired-from-places pins pairs net some one =
    let place = place-of_count pins net (omega arith) in
    let t = pairs net place.0 some place.1 in
    omega (arith, two-places pins net some t.first t.second t.differ t.at_first t.at_second)
