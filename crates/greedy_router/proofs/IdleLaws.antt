use Rattle.std.proofs.Common.{◌≡◌, ◌<◌, ◌+◌, eqb, ℕ, zero, suc, List, [], ◌∷◌, cond, drop, get_or, length, map, refl, sym, subst, ap, ◌∙◌, arith, Contains, inl, inr}
use Rattle.std.proofs.lemmas.Bool.{cond-true, cond-false, ne_eqb, eq-eqb, cases_eq}
use Rattle.channel_model.specs.Pins.{Pins}
use Rattle.choose_core.specs.declared.candidate.Candidate.{Candidate}
use Rattle.choose_core.specs.declared.candidate.Next.TheVariants.{Ends, Top, Bottom, Both}
use Rattle.choose_core.specs.declared.plan.Manner.{Manner}
use Rattle.greedy_column.specs.declared.column.Column.{Column}
use Rattle.greedy_column.specs.declared.column.ColumnState.{ColumnState}
use Rattle.greedy_column.specs.declared.column.Track.{Track}
use Rattle.greedy_column.specs.Ahead.{first_in, next_of}
use Rattle.greedy_column.specs.Entering.{Enters}
use Rattle.greedy_column.specs.Follows.{Follows, FollowsOn, entries_of, pin_with}
use Rattle.greedy_column.specs.Joining.{span_in}
use Rattle.greedy_column.specs.Replay.{after, entered, freed, top_pin, bottom_pin, with_nets}
use Rattle.greedy_column.specs.State.{AreNumbered}
use Rattle.greedy_column.specs.Tracks.{ids}
use Rattle.greedy_column.specs.Verticals.{verticals_of_pins}
use Rattle.greedy_column.proofs.PlacedLaws.{hold-none}
use Rattle.greedy_column.proofs.StateLaws.{Follows-from_parts}
use Rattle.greedy_router.specs.Idle.{HasNoPins, IsIdle, nothing}

-- where no edge goes on, a net has no more pins
first-none : (top : List ℕ) (net : ℕ) → first_in top [] net ≡ Ends
first-none [] net = refl
first-none (a ∷ top) net = refl

-- a column without pins is passed over
passed : (a b net : ℕ) (top bottom : List ℕ) → 0 < net → a ≡ 0 → b ≡ 0 → first_in (a ∷ top) (b ∷ bottom) net ≡ first_in top bottom net
passed a b net top bottom some none too =
    cond-false (eqb a net) (cond (eqb b net) Both Top) (cond (eqb b net) Bottom (first_in top bottom net)) (ne_eqb a net (λ same. omega (arith, some, none, same)))
    ∙ cond-false (eqb b net) Bottom (first_in top bottom net) (ne_eqb b net (λ same. omega (arith, some, too, same)))

-- so it is the same whether the next pins are looked for from such a column on, or behind it
first-past : (top bottom : List ℕ) (column net : ℕ) → 0 < net → get_or top column 0 ≡ 0 → get_or bottom column 0 ≡ 0
    → first_in (drop column top) (drop column bottom) net ≡ first_in (drop (suc column) top) (drop (suc column) bottom) net
first-past [] bottom zero net some none too = refl
first-past [] bottom (suc column) net some none too = refl
first-past (a ∷ top) [] zero net some none too = sym (first-none top net)
first-past (a ∷ top) [] (suc column) net some none too = first-none (drop column top) net ∙ sym (first-none (drop (suc column) top) net)
first-past (a ∷ top) (b ∷ bottom) zero net some none too = passed a b net top bottom some none too
first-past (a ∷ top) (b ∷ bottom) (suc column) net some none too = first-past top bottom column net some none too

-- a column without pins changes nothing of where nets have their next pins
pub next-again : (pins : Pins) (column : ℕ) → HasNoPins pins (column + 1) → (net : ℕ) → next_of pins column net ≡ next_of pins (column + 1) net
next-again pins column no_pins net = elim (cases_eq net 0) [
  | inl none ↦
      cond-true (eqb net 0) Ends (first_in (drop (column + 1) pins.top) (drop (column + 1) pins.bottom) net) (eq-eqb net 0 none)
      ∙ sym (cond-true (eqb net 0) Ends (first_in (drop (column + 1 + 1) pins.top) (drop (column + 1 + 1) pins.bottom) net) (eq-eqb net 0 none))
  | inr other ↦
      let some : 0 < net = omega (arith, other) in
      let apart = ne_eqb net 0 other in
      let one-more : suc (column + 1) ≡ column + 1 + 1 = omega arith in
      cond-false (eqb net 0) Ends (first_in (drop (column + 1) pins.top) (drop (column + 1) pins.bottom) net) apart
      ∙ first-past pins.top pins.bottom (column + 1) net some no_pins.top no_pins.bottom
      ∙ ap (λ n. first_in (drop n pins.top) (drop n pins.bottom) net) one-more
      ∙ sym (cond-false (eqb net 0) Ends (first_in (drop (column + 1 + 1) pins.top) (drop (column + 1 + 1) pins.bottom) net) apart)
]

-- where nothing happens in a column without pins, nothing happens in the next one without pins
pub follows-next : (manner : Manner) (may : List Candidate → ℕ → Type 0) (pins : Pins) (column fresh : ℕ) (tracks : List Track) → HasNoPins pins column → HasNoPins pins (column + 1)
    → Follows manner may pins column fresh tracks nothing → Follows manner may pins (column + 1) fresh tracks nothing
follows-next manner may pins column fresh tracks no_pins next follows =
    Follows-from_parts manner may (next_of pins column) pins (column + 1) fresh tracks nothing 0 0 (sym next.top) (sym next.bottom) (next-again pins column next) refl
    (subst (λ y. Enters manner may (pin_with (next_of pins column) 0) (pin_with (next_of pins column) y) tracks fresh (entries_of nothing)) no_pins.bottom
    (subst (λ x. Enters manner may (pin_with (next_of pins column) x) (pin_with (next_of pins column) (bottom_pin pins column)) tracks fresh (entries_of nothing)) no_pins.top follows.enters))
    (subst (λ y. FollowsOn manner may (next_of pins column) (with_nets 0 0 y 0 tracks)
    (map (span_in (ids (with_nets 0 0 y 0 tracks))) (verticals_of_pins nothing.straight 0 y 0 0)) [] [] []) no_pins.bottom
    (subst (λ x. FollowsOn manner may (next_of pins column) (with_nets x 0 (bottom_pin pins column) 0 tracks)
    (map (span_in (ids (with_nets x 0 (bottom_pin pins column) 0 tracks))) (verticals_of_pins nothing.straight x (bottom_pin pins column) 0 0)) [] [] []) no_pins.top follows.goes_on))

-- tracks of which none ends are as they were
freed-none : (tracks : List Track) → freed [] tracks ≡ tracks
freed-none [] = refl
freed-none (t ∷ tracks) = ap (λ (l : List Track). t ∷ l) (freed-none tracks)

-- a column in which nothing happens leaves the tracks as they are
pub after-nothing : (pins : Pins) (column fresh : ℕ) (tracks : List Track) → AreNumbered fresh tracks → after pins column nothing tracks ≡ tracks
after-nothing pins column fresh tracks numbered =
    let none : Contains (ids tracks) 0 → ⊥ = λ member. let some = numbered.positive 0 member in omega (arith, some) in
    freed-none (entered pins column nothing tracks)
    ∙ hold-none _ 0 (top_pin pins column) (subst (λ (l : List Track). Contains (ids l) 0 → ⊥) (sym (hold-none tracks 0 (bottom_pin pins column) none)) none)
    ∙ hold-none tracks 0 (bottom_pin pins column) none

-- so the next column begins behind an idle one
pub idle-next : (manner : Manner) (may : List Candidate → ℕ → Type 0) (pins : Pins) (column : ℕ) (state later : ColumnState) (done : Column)
    → AreNumbered state.fresh state.order → HasNoPins pins column → done ≡ nothing → Follows manner may pins column state.fresh state.order done
    → later.order ≡ after pins column done state.order → later.fresh ≡ state.fresh + length done.made → IsIdle manner may pins column later
idle-next manner may pins column state later done numbered no_pins is follows left counted =
    let order : later.order ≡ state.order = left ∙ ap (λ (d : Column). after pins column d state.order) is ∙ after-nothing pins column state.fresh state.order numbered in
    let more : length done.made ≡ 0 = ap (λ (d : Column). length d.made) is in
    let fresh : later.fresh ≡ state.fresh = omega (arith, counted, more) in
    record {
      no_pins = no_pins;
      follows = subst (λ f. Follows manner may pins column f later.order nothing) (sym fresh)
          (subst (λ (l : List Track). Follows manner may pins column state.fresh l nothing) (sym order)
          (subst (λ (d : Column). Follows manner may pins column state.fresh state.order d) is follows));
    }
