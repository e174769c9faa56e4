use Rattle.std.proofs.Common.{◌≡◌, ◌≢◌, ◌⊎◌, inl, inr, ◌<◌, eqb, leb, ℕ, List, [], ◌∷◌, Bool, true, false, cond, map, refl, sym, subst, ap, ◌∙◌, arith, Contains, get_or}
use Rattle.std.proofs.lemmas.Bool.{cases_lt, cond-true, cond-false, le-leb, lt-leb, eqb-false, ne_eqb}
use Rattle.std.proofs.lemmas.List.Elements.{Contains-append_cases, Contains-append_left, Contains-append_right}
use Rattle.channel_model.specs.Pins.{Pins}
use Rattle.greedy_column.specs.declared.column.Track.{Track}
use Rattle.greedy_column.specs.declared.column.Column.{Column}
use Rattle.greedy_column.specs.Tracks.{ids, held_by, line_of}
use Rattle.greedy_column.specs.Replay.{top_pin, bottom_pin, entered}
use Rattle.greedy_column.specs.Verticals.{Vertical, floor, on, ceiling, bottom_verticals, top_verticals, verticals_of_pins, pin_verticals, between, joined_verticals, verticals}
use Rattle.greedy_column.specs.Neighbours.{Holds, AreNeighbours}
use Rattle.greedy_column.specs.Lawful.{IsLawful, HasEqualPins, TopEnters, BottomEnters}
use Rattle.greedy_column.specs.State.{AreNumbered}
use Rattle.greedy_column.proofs.IdLaws.{Apart}
use Rattle.greedy_column.proofs.TableLaws.{place_in}
use Rattle.greedy_column.proofs.EnteredLaws.{now-apart, target-free}
use Rattle.std_laws.proofs.Members.{member-none, member-head, member-only, map-cases}

-- two tracks on one line are one
pub one_on_line : (order : List ℕ) (a b : ℕ) → Apart order → Contains order a → Contains order b → line_of order a ≡ line_of order b → a ≡ b
one_on_line order a b apart first second same =
    let one = place_in order a apart first in
    let two = place_in order b apart second in
    let place : one.0 ≡ two.0 = omega (arith, one.3, two.3, same) in
    sym one.2 ∙ ap (λ k. get_or order k 0) place ∙ two.2

-- a vertical of two equal pins, of a bottom pin and of a top pin
abbrev pub straight_of : ℕ → Vertical
straight_of net = record { net = net; low = floor; high = ceiling }

abbrev pub lower_of : ℕ → ℕ → Vertical
lower_of net id = record { net = net; low = floor; high = on id }

abbrev pub upper_of : ℕ → ℕ → Vertical
upper_of net id = record { net = net; low = on id; high = ceiling }

abbrev pub piece_of : ℕ → ℕ → ℕ → Vertical
piece_of net low high = record { net = net; low = on low; high = on high }

module _ (pins : Pins) (column : ℕ) (before : List Track) (done : Column) where
  abbrev now : List Track
  now = entered pins column done before

  -- the verticals of a column's pins, and all of its verticals, each by what it is of
  pub data IsOfPin : Vertical → Type 0 where
    of_both : HasEqualPins pins column → IsOfPin (straight_of (top_pin pins column))
    of_bottom : BottomEnters pins column → IsOfPin (lower_of (bottom_pin pins column) done.bottom)
    of_top : TopEnters pins column before → top_pin pins column ≢ bottom_pin pins column → IsOfPin (upper_of (top_pin pins column) done.top)

  pub data IsOf : Vertical → Type 0 where
    of_pin : {v : Vertical} → IsOfPin v → IsOf v
    of_join : (net low high : ℕ) → Contains done.joins (low, high) → AreNeighbours now net low high → IsOf (piece_of net low high)
    of_rise : (net old new : ℕ) → Contains done.moves (old, new) → Holds now net old → line_of (ids now) old < line_of (ids now) new → IsOf (piece_of net old new)
    of_fall : (net old new : ℕ) → Contains done.moves (old, new) → Holds now net old → line_of (ids now) new < line_of (ids now) old → IsOf (piece_of net new old)

  module _ (fresh : ℕ) (numbered : AreNumbered fresh before) (lawful : IsLawful pins column fresh before done) where
    not_equal : done.straight ≡ false → 0 < top_pin pins column → top_pin pins column ≢ bottom_pin pins column
    not_equal bent some same = let straight : done.straight ≡ true = lawful.straight.1 (record { some = some; equal = same }) in cc (bent, straight)

    bottom_kind : (v : Vertical) → done.straight ≡ false → Contains (bottom_verticals (bottom_pin pins column) done.bottom) v → IsOfPin v
    bottom_kind v bent member = step (eqb (bottom_pin pins column) 0) refl member where
      step : (b : Bool) → eqb (bottom_pin pins column) 0 ≡ b → Contains (cond {A = List Vertical} b [] (lower_of (bottom_pin pins column) done.bottom ∷ [])) v → IsOfPin v
      step true is member = absurd (member-none v member)
      step false is member =
          let other = eqb-false (bottom_pin pins column) 0 is in
          let some : 0 < bottom_pin pins column = omega arith in
          let enters : BottomEnters pins column = (some, (λ same. not_equal bent (omega (arith, some, same)) same)) in
          subst (λ w. IsOfPin w) (member-only (lower_of (bottom_pin pins column) done.bottom) v member) (of_bottom enters)

    top_kind : (v : Vertical) → done.straight ≡ false → Contains (top_verticals (top_pin pins column) done.top) v → IsOfPin v
    top_kind v bent member = step (eqb (top_pin pins column) 0) refl member where
      step : (b : Bool) → eqb (top_pin pins column) 0 ≡ b → Contains (cond {A = List Vertical} b [] (upper_of (top_pin pins column) done.top ∷ [])) v → IsOfPin v
      step true is member = absurd (member-none v member)
      step false is member =
          let other = eqb-false (top_pin pins column) 0 is in
          let some : 0 < top_pin pins column = omega arith in
          let apart = not_equal bent some in
          subst (λ w. IsOfPin w) (member-only (upper_of (top_pin pins column) done.top) v member) (of_top (inl (some, apart)) apart)

    pub pin_kind : (v : Vertical) → Contains (pin_verticals pins column done) v → IsOfPin v
    pin_kind v member = step done.straight refl member where
      step : (b : Bool) → done.straight ≡ b → Contains (verticals_of_pins b (top_pin pins column) (bottom_pin pins column) done.top done.bottom) v → IsOfPin v
      step true is member = subst (λ w. IsOfPin w) (member-only (straight_of (top_pin pins column)) v member) (of_both (lawful.straight.0 is))
      step false is member =
          elim (Contains-append_cases (bottom_verticals (bottom_pin pins column) done.bottom) (top_verticals (top_pin pins column) done.top) v member) [
            | inl low ↦ bottom_kind v is low
            | inr high ↦ top_kind v is high
          ]

    between_rise : (net a b : ℕ) → Holds now net a → line_of (ids now) a < line_of (ids now) b → between now (a, b) ≡ piece_of net a b
    between_rise net a b held order =
        cond-true (leb (line_of (ids now) a) (line_of (ids now) b)) (piece_of (held_by now a) a b) (piece_of (held_by now a) b a)
        (le-leb (line_of (ids now) a) (line_of (ids now) b) (omega (arith, order)))
        ∙ ap (λ n. piece_of n a b) held.held

    between_fall : (net a b : ℕ) → Holds now net a → line_of (ids now) b < line_of (ids now) a → between now (a, b) ≡ piece_of net b a
    between_fall net a b held order =
        cond-false (leb (line_of (ids now) a) (line_of (ids now) b)) (piece_of (held_by now a) a b) (piece_of (held_by now a) b a)
        (lt-leb (line_of (ids now) a) (line_of (ids now) b) order)
        ∙ ap (λ n. piece_of n b a) held.held

    -- a join's vertical
    pub join_is : (net low high : ℕ) → AreNeighbours now net low high → between now (low, high) ≡ piece_of net low high
    join_is net low high pair = between_rise net low high pair.lower pair.above

    join_kind : (v : Vertical) → Contains (map (between now) done.joins) v → IsOf v
    join_kind v member =
        let from = map-cases (between now) done.joins v member in
        let pair = lawful.joins from.0.0 from.0.1 from.1 in
        subst (λ w. IsOf w) (sym (join_is pair.0 from.0.0 from.0.1 pair.1) ∙ from.2) (of_join pair.0 from.0.0 from.0.1 from.1 pair.1)

    move_kind : (v : Vertical) → Contains (map (between now) done.moves) v → IsOf v
    move_kind v member =
        let from = map-cases (between now) done.moves v member in
        let old : ℕ = from.0.0 in
        let new : ℕ = from.0.1 in
        let move = lawful.moves old new from.1 in
        let free = target-free pins column fresh before done numbered lawful old new move in
        let net = move.held.0 in
        let held = move.held.1 in
        let some = held.net_is in
        let other : line_of (ids now) old ≢ line_of (ids now) new = λ same.
        let one = one_on_line (ids now) old new (now-apart pins column fresh before done numbered lawful) held.there free.0 same in
        omega (arith, some, held.held, free.1, ap (held_by now) one) in
        elim (cases_lt (line_of (ids now) old) (line_of (ids now) new)) [
          | inl rise ↦ subst (λ w. IsOf w) (sym (between_rise net old new held rise) ∙ from.2) (of_rise net old new from.1 held rise)
          | inr not_rise ↦
              let fall : line_of (ids now) new < line_of (ids now) old = omega (arith, not_rise, other) in
              subst (λ w. IsOf w) (sym (between_fall net old new held fall) ∙ from.2) (of_fall net old new from.1 held fall)
        ]

    pub joined_kind : (v : Vertical) → Contains (joined_verticals pins column done now) v
        → IsOfPin v ⊎ ((net : ℕ) × ((low : ℕ) × ((high : ℕ) × Contains done.joins (low, high) × AreNeighbours now net low high × (piece_of net low high ≡ v))))
    joined_kind v member = elim (Contains-append_cases (pin_verticals pins column done) (map (between now) done.joins) v member) [
      | inl pin ↦ inl (pin_kind v pin)
      | inr join ↦
          let from = map-cases (between now) done.joins v join in
          let pair = lawful.joins from.0.0 from.0.1 from.1 in
          inr (pair.0, (from.0.0, (from.0.1, from.1, pair.1, sym (join_is pair.0 from.0.0 from.0.1 pair.1) ∙ from.2)))
    ]

    pub vertical_kind : (v : Vertical) → Contains (verticals pins column done now) v → IsOf v
    vertical_kind v member = elim (Contains-append_cases (joined_verticals pins column done now) (map (between now) done.moves) v member) [
      | inl joined ↦ elim (Contains-append_cases (pin_verticals pins column done) (map (between now) done.joins) v joined) [
        | inl pin ↦ of_pin (pin_kind v pin)
        | inr join ↦ join_kind v join
      ]
      | inr move ↦ move_kind v move
    ]

    -- each pin is met at its edge by a vertical of its net
    pub bottom_met : 0 < bottom_pin pins column → (v : Vertical) × Contains (pin_verticals pins column done) v × (v.net ≡ bottom_pin pins column) × (v.low ≡ floor)
    bottom_met some = step done.straight refl where
      step : (b : Bool) → done.straight ≡ b
          → (v : Vertical) × Contains (verticals_of_pins b (top_pin pins column) (bottom_pin pins column) done.top done.bottom) v × (v.net ≡ bottom_pin pins column) × (v.low ≡ floor)
      step true is = (straight_of (top_pin pins column), member-head (straight_of (top_pin pins column)) [], (lawful.straight.0 is).equal, refl)
      step false is = (
        lower_of (bottom_pin pins column) done.bottom,
        Contains-append_left (bottom_verticals (bottom_pin pins column) done.bottom) (top_verticals (top_pin pins column) done.top) (lower_of (bottom_pin pins column) done.bottom)
            (subst (λ b. Contains (cond {A = List Vertical} b [] (lower_of (bottom_pin pins column) done.bottom ∷ [])) (lower_of (bottom_pin pins column) done.bottom))
            (sym (ne_eqb (bottom_pin pins column) 0 (λ none. omega (arith, none, some)))) (member-head (lower_of (bottom_pin pins column) done.bottom) [])),
        refl,
        refl,
      )

    pub top_met : 0 < top_pin pins column → (v : Vertical) × Contains (pin_verticals pins column done) v × (v.net ≡ top_pin pins column) × (v.high ≡ ceiling)
    top_met some = step done.straight where
      step : (b : Bool)
          → (v : Vertical) × Contains (verticals_of_pins b (top_pin pins column) (bottom_pin pins column) done.top done.bottom) v × (v.net ≡ top_pin pins column) × (v.high ≡ ceiling)
      step true = (straight_of (top_pin pins column), member-head (straight_of (top_pin pins column)) [], refl, refl)
      step false = (
        upper_of (top_pin pins column) done.top,
        Contains-append_right (bottom_verticals (bottom_pin pins column) done.bottom) (top_verticals (top_pin pins column) done.top) (upper_of (top_pin pins column) done.top)
            (subst (λ b. Contains (cond {A = List Vertical} b [] (upper_of (top_pin pins column) done.top ∷ [])) (upper_of (top_pin pins column) done.top))
            (sym (ne_eqb (top_pin pins column) 0 (λ none. omega (arith, none, some)))) (member-head (upper_of (top_pin pins column) done.top) [])),
        refl,
        refl,
      )
