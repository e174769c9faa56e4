use Rattle.std.proofs.Common.{◌≡◌, ◌≢◌, ◌<◌, ◌≤◌, ◌+◌, ◌&&◌, ◌||◌, not, leb, eqb, ltb, ℕ, suc, List, [], Bool, true, false, length, map, get_or, refl, sym, subst, ap, ◌∙◌, arith, Contains, eqb-true}
use Rattle.std.proofs.lemmas.Bool.{and_parts, leb-true}
use Rattle.std.proofs.lemmas.Bool.Decides.{nat_tests}
use Rattle.std.proofs.lemmas.List.Elements.{Contains-get_or}
use Rattle.channel_model.specs.Pins.{Pins}
use Rattle.greedy_column.specs.declared.column.Track.{Track}
use Rattle.greedy_column.specs.declared.column.Column.{Column}
use Rattle.greedy_column.specs.declared.span.Span.{Span}
use Rattle.greedy_column.specs.Tracks.{ids, held_by, line_of}
use Rattle.greedy_column.specs.Verticals.{Vertical, joined_verticals}
use Rattle.greedy_column.specs.Neighbours.{Holds, AreNeighbours, Grouped, alone, along}
use Rattle.greedy_column.specs.Keeping.{AreJoined}
use Rattle.greedy_column.specs.Joining.{neighbours, possible_joins, span_in, is_joined, is_clear, covers, passes}
use Rattle.greedy_column.proofs.IdLaws.{Apart}
use Rattle.greedy_column.proofs.TableLaws.{length-ids, line_of-at, held_by-at, place_in}
use Rattle.greedy_column.proofs.NeighbourLaws.{AreNext, listed_from}
use Rattle.std_laws.proofs.Members.{member-none, filter-member, map-cases, any-cases, all-fails}

-- two neighbouring tracks stand on two places of their net with none between
pub AreNext-from : (now : List Track) (net low high : ℕ) → Apart (ids now) → AreNeighbours now net low high
    → (i : ℕ) × ((j : ℕ) × AreNext now net i j × (line_of (ids now) low ≡ suc i) × (line_of (ids now) high ≡ suc j))
AreNext-from now net low high apart pair =
    let at = place_in (ids now) low apart pair.lower.there in
    let to = place_in (ids now) high apart pair.upper.there in
    let i = at.0 in
    let j = to.0 in
    let above = pair.above in (
      i,
      (
        j,
        record {
          some = pair.lower.net_is;
          order = omega (arith, at.3, to.3, above);
          within = omega (arith, to.1, length-ids now);
          lower = sym (held_by-at now i apart (omega (arith, at.1, length-ids now))) ∙ ap (held_by now) at.2 ∙ pair.lower.held;
          upper = sym (held_by-at now j apart (omega (arith, to.1, length-ids now))) ∙ ap (held_by now) to.2 ∙ pair.upper.held;
          between = λ k over under own.
              let inside : k < length (ids now) = omega (arith, under, to.1) in
              let id = get_or (ids now) k 0 in
              let line : line_of (ids now) id ≡ suc k = line_of-at (ids now) k apart inside in
              let held : Holds now net id = record {
                net_is = pair.lower.net_is;
                there = Contains-get_or (ids now) k 0 inside;
                held = held_by-at now k apart (omega (arith, inside, length-ids now)) ∙ own;
              } in
              let least = pair.next id held (omega (arith, line, at.3, over)) in
              omega (arith, least, line, to.3, under);
        },
        at.3,
        to.3,
      ),
    )

-- a vertical on a span
pub drawn_on : (now : List Track) (vs : List Vertical) (spans : List Span) → map (span_in (ids now)) vs ≡ spans → (s : Span) → Contains spans s
    → (v : Vertical) × Contains vs v × (span_in (ids now) v ≡ s)
drawn_on now vs spans is s member = map-cases (span_in (ids now)) vs s (subst (λ (l : List Span). Contains l s) (sym is) member)

-- what a vertical of the net covers is linked by it
pub linked_by : (now : List Track) (vs : List Vertical) (net low high : ℕ) (piece s : Span) (v : Vertical) → Holds now net low → Holds now net high
    → Contains vs v → span_in (ids now) v ≡ s → piece.net ≡ net → line_of (ids now) low ≡ piece.low → line_of (ids now) high ≡ piece.high
    → piece.low ≤ piece.high → covers piece s ≡ true → Grouped now vs low high
linked_by now vs net low high piece s v lower upper member is net_is low_is high_is order covered =
    let parts = and_parts (eqb s.net piece.net) (leb s.low piece.low && leb piece.high s.high) covered in
    let ends = and_parts (leb s.low piece.low) (leb piece.high s.high) parts.1 in
    let first : s.low ≤ piece.low = leb-true s.low piece.low ends.0 in
    let last : piece.high ≤ s.high = leb-true piece.high s.high ends.1 in
    let same : net ≡ v.net = sym net_is ∙ sym (eqb-true s.net piece.net parts.0) ∙ sym (ap (λ (t : Span). t.net) is) in
    let begins = ap (λ (t : Span). t.low) is in
    let ends_at = ap (λ (t : Span). t.high) is in
    along v member (subst (λ n. Holds now n low) same lower) (subst (λ n. Holds now n high) same upper)
    (omega (arith, begins, first, low_is), omega (arith, ends_at, last, low_is, order))
    (omega (arith, begins, first, high_is, order), omega (arith, ends_at, last, high_is)) alone

not_passed : (n m a b c d : ℕ) → (eqb n m || (ltb b c || ltb d a)) ≡ false → (n ≢ m) × (c ≤ b) × (a ≤ d)
not_passed n m a b c d none = (grind (arith, nat_tests), grind (arith, nat_tests), grind (arith, nat_tests))

both_false : (b c : Bool) → (b ≡ true → ⊥) → (not b && c ≡ true → ⊥) → c ≡ false
both_false true c refused none = absurd (refused refl)
both_false false true refused none = absurd (none refl)
both_false false false refused none = refl

-- after the joins, two neighbouring tracks that are not linked are parted
pub AreJoined-from : (pins : Pins) (column : ℕ) (now : List Track) (done : Column) (spans : List Span) → Apart (ids now)
    → map (span_in (ids now)) (joined_verticals pins column done now) ≡ spans → possible_joins spans (neighbours now) ≡ [] → AreJoined pins column now done
AreJoined-from pins column now done spans apart drawn none net low high pair unlinked =
    let next = AreNext-from now net low high apart pair in
    let i = next.0 in
    let j = next.1.0 in
    let low_is : line_of (ids now) low ≡ 1 + i = next.1.2 ∙ omega arith in
    let high_is : line_of (ids now) high ≡ 1 + j = next.1.3 ∙ omega arith in
    let piece : Span = record { net = net; low = 1 + i; high = 1 + j } in
    let member : Contains (neighbours now) piece = listed_from now net 1 i j next.1.1 in
    let upward : 1 + i ≤ 1 + j = omega (arith, next.1.1.order) in
    let unjoined : is_joined spans piece ≡ true → ⊥ = λ joined.
    let found = any-cases (covers piece) spans joined in
    let v = drawn_on now (joined_verticals pins column done now) spans drawn found.0 found.1 in
    unlinked (linked_by now (joined_verticals pins column done now) net low high piece found.0 v.0 pair.lower pair.upper v.1 v.2 refl low_is high_is upward found.2) in
    let impossible : (not (is_joined spans piece) && is_clear spans piece) ≡ true → ⊥ = λ test.
    member-none piece (subst (λ (l : List Span). Contains l piece) none
    (filter-member (λ s. not (is_joined spans s) && is_clear spans s) (neighbours now) piece member test)) in
    let blocked : is_clear spans piece ≡ false = both_false (is_joined spans piece) (is_clear spans piece) unjoined impossible in
    let found = all-fails (passes piece) spans blocked in
    let v = drawn_on now (joined_verticals pins column done now) spans drawn found.0 found.1 in
    let s = found.0 in
    let facts = not_passed s.net net s.low s.high (1 + i) (1 + j) found.2 in
    let begins = ap (λ (t : Span). t.low) v.2 in
    let ends = ap (λ (t : Span). t.high) v.2 in (
      v.0,
      v.1,
      (λ same. facts.0 (sym (ap (λ (t : Span). t.net) v.2) ∙ same)),
      (omega (arith, begins, facts.2, high_is), omega (arith, ends, facts.1, low_is)),
    )
