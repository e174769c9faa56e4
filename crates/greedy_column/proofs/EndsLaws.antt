use Rattle.std.proofs.Common.{◌≡◌, ◌≢◌, inl, inr, ◌<◌, ◌≤◌, ℕ, length, List, [], ◌∷◌, refl, sym, subst, ap, arith, Contains}
use Rattle.std.proofs.lemmas.Bool.{cases_lt}
use Rattle.channel_model.specs.Pins.{Pins}
use Rattle.greedy_column.specs.declared.column.Track.{Track}
use Rattle.greedy_column.specs.declared.column.Column.{Column}
use Rattle.greedy_column.specs.Tracks.{ids, line_of}
use Rattle.greedy_column.specs.Replay.{top_pin, bottom_pin, with_made, with_nets, entered, freed, after}
use Rattle.greedy_column.specs.Lines.{id_on}
use Rattle.greedy_column.specs.Verticals.{Vertical, joined_verticals}
use Rattle.greedy_column.specs.Neighbours.{Holds, AreNeighbours, Grouped, alone, along}
use Rattle.greedy_column.specs.State.{AreNumbered}
use Rattle.greedy_column.specs.Ahead.{HasLaterPin}
use Rattle.greedy_column.specs.Fair.{Fair}
use Rattle.greedy_column.proofs.IdLaws.{Apart, Apart-from, ids-freed}
use Rattle.greedy_column.proofs.DrawnLaws.{IsPiece-neighbour}
use Rattle.greedy_column.proofs.PartLaws.{AreNeighbours-from}
use Rattle.greedy_column.proofs.GroupLaws.{HoldsLine-from, next_piece}
use Rattle.greedy_column.specs.Held.{held_count, IsHeld}
use Rattle.greedy_column.proofs.NoPinLaws.{no_pins, no_pins-made}
use Rattle.greedy_column.proofs.EnteredLaws.{now-apart, keeps-now}
use Rattle.greedy_column.proofs.VerticalLaws.{one_on_line, piece_of, IsOfPin, of_both, of_bottom, of_top, joined_kind}
use Rattle.greedy_column.proofs.HeldCountLaws.{Holds-some, entered-count, freed-fewer, moved-count}
use Rattle.std_laws.proofs.Members.{member-none, member-head}

-- a column without pins
module _ (pins : Pins) (column fresh : ℕ) (before : List Track) (done : Column) (numbered : AreNumbered fresh before) (fair : Fair pins column fresh before done)
    (none : top_pin pins column ≡ 0) (too : bottom_pin pins column ≡ 0) where
  abbrev now : List Track
  now = entered pins column done before

  abbrev vs : List Vertical
  vs = joined_verticals pins column done now

  apart_now : Apart (ids now)
  apart_now = now-apart pins column fresh before done numbered fair.lawful

  no_pin : (v : Vertical) → IsOfPin pins column before done v → ⊥
  no_pin v (of_both equal) = let some = equal.some in omega (arith, some, none)
  no_pin v (of_bottom enters) = omega (arith, enters.0, too)
  no_pin v (of_top (inl own) apart) = omega (arith, own.0, none)
  no_pin v (of_top (inr straight) apart) = let some = straight.equal.some in omega (arith, some, none)

  -- where no track ends
  module _ (none_ends : (id : ℕ) → Contains done.ended id → ⊥) where
    -- neighbouring tracks are not linked
    unlinked : (net low high : ℕ) → AreNeighbours now net low high → Grouped now vs low high → ⊥
    unlinked net low high pair linked = elim (fair.keeps net low pair.lower) [
      | inl up ↦ none_ends low (up.all_end low pair.lower)
      | inr on ↦
          let same = on.one_kept low high pair.lower pair.upper (none_ends low) (none_ends high) linked in
          let above = pair.above in
          omega (arith, above, ap (line_of (ids now)) same)
    ]

    -- so there is no join, and nothing parts them
    not_neighbours : (net low high : ℕ) → AreNeighbours now net low high → ⊥
    not_neighbours net low high pair =
        let parted = fair.joined net low high pair (unlinked net low high pair) in
        elim (joined_kind pins column before done fresh numbered fair.lawful parted.0 parted.1) [
          | inl pin ↦ no_pin parted.0 pin
          | inr (other, (one, (two, join, next, is))) ↦
              let above = next.above in
              unlinked other one two next
              (along (piece_of other one two) (subst (λ v. Contains vs v) (sym is) parted.1) next.lower next.upper
              (omega arith, omega (arith, above)) (omega (arith, above), omega arith) alone)
        ]

    not_above : (net low high : ℕ) → Holds now net low → Holds now net high → line_of (ids now) low < line_of (ids now) high → ⊥
    not_above net low high lower upper order =
        let next = next_piece now apart_now net (line_of (ids now) low) (line_of (ids now) high)
        (HoldsLine-from now apart_now net low lower) (HoldsLine-from now apart_now net high upper) order in
        not_neighbours next.piece.net (id_on now next.piece.low) (id_on now next.piece.high)
        (AreNeighbours-from now next.piece apart_now (IsPiece-neighbour now next.piece next.listed))

    not_two : (net a b : ℕ) → Holds now net a → Holds now net b → a ≢ b → ⊥
    not_two net a b first second other = elim (cases_lt (line_of (ids now) a) (line_of (ids now) b)) [
      | inl below ↦ not_above net a b first second below
      | inr not_below ↦ elim (cases_lt (line_of (ids now) b) (line_of (ids now) a)) [
        | inl above ↦ not_above net b a second first above
        | inr level ↦ other (one_on_line (ids now) a b apart_now first.there second.there (omega (arith, not_below, level)))
      ]
    ]

  -- where a net holds two tracks, one ends
  pub some_ends : (net a b : ℕ) → Holds now net a → Holds now net b → a ≢ b → (id : ℕ) × Contains done.ended id
  some_ends net a b first second other = step done.ended refl where
    step : (ended : List ℕ) → done.ended ≡ ended → (id : ℕ) × Contains ended id
    step [] is = absurd (not_two (λ id member. member-none id (subst (λ l. Contains l id) is member)) net a b first second other)
    step (id ∷ ended) is = (id, member-head id ended)

  -- where a track ends, fewer are held
  fewer_ended : (id : ℕ) → Contains done.ended id → held_count (after pins column done before) < held_count before
  fewer_ended id ends =
      let own = fair.lawful.ended_held id ends in
      let some = own.1.net_is in
      let gone = freed-fewer done.ended now id ends (omega (arith, some, own.1.held)) in
      let kept = moved-count done.moves (freed done.ended now) (subst (λ l. Apart l) (sym (ids-freed done.ended now)) apart_now) in
      let made = no_pins-made pins column fresh before done numbered.some fair.lawful none too in
      let entering = entered-count before done.top (top_pin pins column) done.bottom (bottom_pin pins column) (Apart-from (ids before) numbered.distinct) none too in
      let same : held_count now ≡ held_count (with_nets (top_pin pins column) done.top (bottom_pin pins column) done.bottom before) =
      ap (λ m. held_count (with_nets (top_pin pins column) done.top (bottom_pin pins column) done.bottom (with_made before m))) made in
      omega (arith, gone, kept, entering, same)

  pub fewer_held : (net a b : ℕ) → Holds now net a → Holds now net b → a ≢ b → held_count (after pins column done before) < held_count before
  fewer_held net a b first second other = let ends = some_ends net a b first second other in fewer_ended ends.0 ends.1

  -- where a net that has no later pin holds a track, fewer are held
  pub fewer_left : (net id : ℕ) → Holds before net id → (HasLaterPin pins column net → ⊥) → held_count (after pins column done before) < held_count before
  fewer_left net id held later =
      let own = keeps-now pins column fresh before done numbered fair.lawful net id held in
      elim (fair.keeps net id own) [
        | inl up ↦ fewer_ended id (up.all_end id own)
        | inr on ↦ elim on.wanted [
          | inl pin ↦ absurd (later pin)
          | inr split ↦ fewer_held net split.one split.other split.one_held split.other_held
              (λ same. split.apart (subst (λ i. Grouped now vs split.one i) same alone))
        ]
      ]

-- A column past a channel's end, before which a net holds a track, leaves fewer tracks held.
pub column-lessens : (pins : Pins) (column fresh : ℕ) (before : List Track) (done : Column) → length pins.top ≡ length pins.bottom → AreNumbered fresh before
    → Fair pins column fresh before done → length pins.top ≤ column → IsHeld before → held_count (after pins column done before) < held_count before
column-lessens pins column fresh before done matched numbered fair past held =
    let (net, (id, own)) = Holds-some before (Apart-from (ids before) numbered.distinct) held in
    let none = no_pins pins column matched past in
    let some = own.net_is in
    fewer_left pins column fresh before done numbered fair none.0 none.1 net id own (λ later.
    let gone = no_pins pins later.0 matched (omega (arith, past, later.1)) in
    elim later.2 [ inl top ↦ omega (arith, top, gone.0, some) | inr bottom ↦ omega (arith, bottom, gone.1, some) ])
