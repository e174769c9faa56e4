use Rattle.std.proofs.Common.{◌≡◌, ◌⊎◌, inl, inr, ◌<◌, ◌≤◌, ℕ, List, [], ◌∷◌, length, refl, arith, Contains}
use Rattle.std.proofs.lemmas.List.{get_or_past}
use Rattle.std.proofs.lemmas.Bool.{cases_lt}
use Rattle.channel_model.specs.Pins.{Pins}
use Rattle.greedy_column.specs.declared.column.Track.{Track}
use Rattle.greedy_column.specs.declared.column.Made.{Made}
use Rattle.greedy_column.specs.declared.column.Column.{Column}
use Rattle.greedy_column.specs.Replay.{top_pin, bottom_pin}
use Rattle.greedy_column.specs.Lawful.{IsLawful, AreMadeFrom}
use Rattle.std_laws.proofs.Members.{member-head}

-- past the end of a channel there are no pins
pub no_pins : (pins : Pins) (column : ℕ) → length pins.top ≡ length pins.bottom → length pins.top ≤ column
    → (top_pin pins column ≡ 0) × (bottom_pin pins column ≡ 0)
no_pins pins column matched past = (get_or_past pins.top column 0 past, get_or_past pins.bottom column 0 (omega (arith, matched, past)))

module _ (pins : Pins) (column fresh : ℕ) (before : List Track) (done : Column) (lawful : IsLawful pins column fresh before done) where
  -- a column without pins enters no track
  pub no_top : top_pin pins column ≡ 0 → done.top ≡ 0
  no_top none = elim (cases_lt 0 done.top) [
    | inl some ↦ absurd (elim (lawful.top_none some) [ inl own ↦ omega (arith, own.0, none) | inr straight ↦ omega (arith, straight.equal.some, none) ])
    | inr zero ↦ omega (arith, zero)
  ]

  pub no_bottom : bottom_pin pins column ≡ 0 → done.bottom ≡ 0
  no_bottom none = elim (cases_lt 0 done.bottom) [
    | inl some ↦ let own = (lawful.bottom_none some).0 in absurd (omega (arith, own, none))
    | inr zero ↦ omega (arith, zero)
  ]

-- a column without pins makes no track
no_made : (top bottom fresh count : ℕ) (made : List Made) → 0 < fresh → top ≡ 0 → bottom ≡ 0 → AreMadeFrom fresh count made
    → ((m : Made) → Contains made m → (m.id ≡ top) ⊎ (m.id ≡ bottom)) → made ≡ []
no_made top bottom fresh count [] some none too placed entered = refl
no_made top bottom fresh count (m ∷ made) some none too placed entered = let is = entered m (member-head m made) in absurd (omega (arith, placed.0))

pub no_pins-made : (pins : Pins) (column fresh : ℕ) (before : List Track) (done : Column) → 0 < fresh → IsLawful pins column fresh before done
    → top_pin pins column ≡ 0 → bottom_pin pins column ≡ 0 → done.made ≡ []
no_pins-made pins column fresh before done some lawful none too =
    no_made done.top done.bottom fresh (length before) done.made some (no_top pins column fresh before done lawful none)
    (no_bottom pins column fresh before done lawful too) lawful.made lawful.made_entered
