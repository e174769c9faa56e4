use Rattle.std.proofs.Common.{◌≡◌, ◌⊎◌, inl, inr, ◌<◌, ◌≤◌, ◌&&◌, not, eqb, ℕ, List, Bool, true, false, length, map, refl, sym, subst, ap, ◌∙◌, arith, Contains, eqb-true, eq-eqb}
use Rattle.std.proofs.lemmas.Bool.{and_parts, and_from, cases_lt, cases_eq}
use Rattle.channel_model.specs.Pins.{Pins}
use Rattle.choose_core.specs.declared.candidate.Candidate.{Candidate}
use Rattle.greedy_column.specs.declared.column.Track.{Track}
use Rattle.greedy_column.specs.declared.column.Column.{Column}
use Rattle.greedy_column.specs.declared.span.Span.{Span}
use Rattle.greedy_column.specs.Tracks.{ids, line_of}
use Rattle.greedy_column.specs.Ahead.{next_of}
use Rattle.greedy_column.specs.Verticals.{Vertical, joined_verticals}
use Rattle.greedy_column.specs.Neighbours.{Holds, Grouped, alone}
use Rattle.greedy_column.specs.Keeping.{GivesUp, GoesOn, IsSplit}
use Rattle.greedy_column.specs.Lines.{id_on, net_on, held_lines}
use Rattle.greedy_column.specs.Entering.{is_ending}
use Rattle.greedy_column.specs.Joining.{neighbours, span_in, is_joined}
use Rattle.greedy_column.specs.Ending.{EndsFollow, chain_from, groups, joined_pairs, is_split, is_given_up, gives_up, next_on}
use Rattle.greedy_column.specs.Follows.{AreEnded}
use Rattle.greedy_column.proofs.IdLaws.{Apart}
use Rattle.greedy_column.proofs.TableLaws.{line_of-line, same_line}
use Rattle.greedy_column.proofs.PairLaws.{chain_from-first}
use Rattle.greedy_column.proofs.LaterLaws.{HasLaterPin-from, goes_on-from_later}
use Rattle.greedy_column.proofs.DrawnLaws.{IsPiece-neighbour}
use Rattle.greedy_column.proofs.GroupLaws.{HoldsLine, HoldsLine-from, Holds-from, id_of_line, lower_line, upper_line, Grouped-trans, Grouped-sym, linked_joined, climb}
use Rattle.greedy_column.proofs.ChainLaws.{joined, firsts, in_group, in_some, first_holds, one_group, Apart-firsts}
use Rattle.greedy_column.proofs.GroupEndLaws.{owned, KeepsOne, EndsIn, ended_in, ends_in, ends_kept, ends_given}
use Rattle.std_laws.proofs.Members.{map-member, map-cases, any-cases, any-member}

both_false : (b c : Bool) → (b && not c) ≡ false → (b ≡ false) ⊎ (c ≡ true)
both_false true true none = inr refl
both_false true false none = absurd (cc none)
both_false false c none = inl refl

not_true : (b : Bool) → not b ≡ true → b ≡ true → ⊥
not_true true none is = cc none
not_true false none is = cc is

module _ (may : List Candidate → ℕ → Type 0) (pins : Pins) (column : ℕ) (now : List Track) (done : Column) (spans : List Span) (ending : List ℕ)
    (matched : length pins.top ≡ length pins.bottom) (apart : Apart (ids now))
    (drawn : map (span_in (ids now)) (joined_verticals pins column done now) ≡ spans)
    (follow : EndsFollow may (next_of pins column) now spans (groups (joined_pairs spans (neighbours now)) (held_lines now)) ending)
    (told : AreEnded now ending done.ended) where
  abbrev vs : List Vertical
  vs = joined_verticals pins column done now

  abbrev group : ℕ → List ℕ
  group first = chain_from (joined_pairs spans (neighbours now)) first

  -- the group of a track, and which lines of it end
  record IsGrouped (net id : ℕ) : Type 0 where
    first : ℕ
    begins : Contains (firsts now apart vs spans drawn) first
    member : Contains (group first) (line_of (ids now) id)
    holds : HoldsLine now net first
    linked : Grouped now vs (id_on now first) id

  group_of : (net id : ℕ) → Holds now net id → IsGrouped net id
  group_of net id held =
      let line : ℕ = line_of (ids now) id in
      let holds = HoldsLine-from now apart net id held in
      let some = in_some now apart vs spans drawn line net line (omega arith) holds in
      let own = first_holds now apart vs spans drawn some.first some.begins in
      let inside = in_group now apart vs spans drawn (net_on now some.first) some.first line own some.member in
      let same : net_on now some.first ≡ net = sym inside.holds.held ∙ holds.held in
      record {
        first = some.first;
        begins = some.begins;
        member = some.member;
        holds = subst (λ n. HoldsLine now n some.first) same own;
        linked = subst (λ i. Grouped now vs (id_on now some.first) i) (id_of_line now apart id held.there) inside.linked;
      }

  -- the lines of a group are linked to its first one, and of its net
  linked_in : (net first line : ℕ) → HoldsLine now net first → Contains (group first) line → HoldsLine now net line × Grouped now vs (id_on now first) (id_on now line)
  linked_in net first line holds member = let inside = in_group now apart vs spans drawn net first line holds member in (inside.holds, inside.linked)

  ends_of_group : (first : ℕ) → Contains (firsts now apart vs spans drawn) first
      → EndsIn may (next_of pins column) now spans (joined now apart vs spans drawn) ending (group first)
  ends_of_group first begins =
      ends_in may (next_of pins column) now spans (joined now apart vs spans drawn) (firsts now apart vs spans drawn) ending first (Apart-firsts now apart vs spans drawn)
      (λ one two line a b m n. one_group now apart vs spans drawn one two line line a b m n alone) follow begins

  -- the ids that end are those of the lines
  ended_from : (line : ℕ) → Contains ending line → Contains done.ended (id_on now line)
  ended_from line member = (told.members (id_on now line)).1 (map-member (id_on now) ending line member)

  ending_held : (line : ℕ) → Contains ending line → (net : ℕ) × HoldsLine now net line
  ending_held line member =
      let in_one_group = ended_in may (next_of pins column) now spans (joined now apart vs spans drawn) (firsts now apart vs spans drawn) ending line follow member in
      let first = in_one_group.0 in
      (net_on now first, (linked_in (net_on now first) first line (first_holds now apart vs spans drawn first in_one_group.1) in_one_group.2).0)

  ended_to : (net line : ℕ) → HoldsLine now net line → Contains done.ended (id_on now line) → Contains ending line
  ended_to net line holds member =
      let from = map-cases (id_on now) ending (id_on now line) ((told.members (id_on now line)).0 member) in
      let other = (ending_held from.0 from.1).1 in
      let same : from.0 ≡ line = same_line now from.0 line apart (other.begins, other.within) (holds.begins, holds.within) from.2 in
      subst (λ l. Contains ending l) same from.1

  -- what ends is held
  pub ended_held : (id : ℕ) → Contains done.ended id → (net : ℕ) × Holds now net id
  ended_held id member =
      let from = map-cases (id_on now) ending id ((told.members id).0 member) in
      let held = ending_held from.0 from.1 in
      (held.0, subst (λ i. Holds now held.0 i) from.2 (Holds-from now apart held.0 from.0 held.1))

  abbrev gives : ℕ → Bool
  gives net = is_given_up (next_of pins column net) (is_split spans (neighbours now) net)

  gives_same : (net first : ℕ) → HoldsLine now net first → gives_up (next_of pins column) now spans (group first) ≡ gives net
  gives_same net first holds = ap gives (ap (net_on now) (chain_from-first (joined_pairs spans (neighbours now)) first) ∙ holds.held)

  -- where no two neighbouring tracks of a net are left apart, all its tracks are linked
  whole : (net a b : ℕ) → is_split spans (neighbours now) net ≡ false → Holds now net a → Holds now net b → line_of (ids now) a ≤ line_of (ids now) b
      → Grouped now vs a b
  whole net a b whole_net first second order =
      subst (λ i. Grouped now vs i b) (id_of_line now apart a first.there)
      (subst (λ i. Grouped now vs (id_on now (line_of (ids now) a)) i) (id_of_line now apart b second.there)
      (climb now apart vs spans drawn (line_of (ids now) b) net (line_of (ids now) a) (line_of (ids now) b) (omega arith) order
      (HoldsLine-from now apart net a first) (HoldsLine-from now apart net b second) (λ piece listed net_is between. step piece listed net_is (is_joined spans piece) refl))) where
        step : (piece : Span) → Contains (neighbours now) piece → piece.net ≡ net → (b : Bool) → is_joined spans piece ≡ b → b ≡ true
        step piece listed net_is true is = refl
        step piece listed net_is false is =
            absurd (cc (
              whole_net,
              any-member (λ (pair : Span). eqb pair.net net && not (is_joined spans pair)) (neighbours now) piece listed
                  (and_from (eqb piece.net net) (not (is_joined spans piece)) (eq-eqb piece.net net net_is) (ap not is)),
            ))

  -- a net of which two neighbouring tracks are left apart is split
  split : (net : ℕ) → is_split spans (neighbours now) net ≡ true → IsSplit pins column now done net
  split net is =
      let found = any-cases (λ (pair : Span). eqb pair.net net && not (is_joined spans pair)) (neighbours now) is in
      let pair = found.0 in
      let tests = and_parts (eqb pair.net net) (not (is_joined spans pair)) found.2 in
      let piece = IsPiece-neighbour now pair found.1 in
      let same : pair.net ≡ net = eqb-true pair.net net tests.0 in
      let lower = lower_line now apart pair piece in
      let upper = upper_line now apart pair piece in
      let low = line_of-line now pair.low apart lower.begins lower.within in
      let high = line_of-line now pair.high apart upper.begins upper.within in
      record {
        one = id_on now pair.low;
        other = id_on now pair.high;
        one_held = subst (λ n. Holds now n (id_on now pair.low)) same (Holds-from now apart pair.net pair.low lower);
        other_held = subst (λ n. Holds now n (id_on now pair.high)) same (Holds-from now apart pair.net pair.high upper);
        apart = λ linked. not_true (is_joined spans pair) tests.1
            (linked_joined now apart vs spans drawn pair piece linked (Holds-from now apart pair.net pair.low lower) (inl (omega (arith, low), omega (arith, high))));
      }

  given_up : (net : ℕ) → 0 < net → gives net ≡ true → GivesUp pins column now done net
  given_up net some is =
      let tests = and_parts (is_ending (next_of pins column net)) (not (is_split spans (neighbours now) net)) is in
      let none : is_split spans (neighbours now) net ≡ false = step (is_split spans (neighbours now) net) tests.1 in
      record {
        ends = λ later. cc (tests.0, goes_on-from_later pins column net matched some later);
        one_group = λ a b first second. elim (cases_lt (line_of (ids now) b) (line_of (ids now) a)) [
          | inl below ↦ Grouped-sym now apart vs spans drawn (whole net b a none second first (omega (arith, below)))
          | inr above ↦ whole net a b none first second above
        ];
        all_end = λ id held.
            let in_it = group_of net id held in
            let ends = ends_of_group in_it.first in_it.begins in
            let all : ends.these ≡ group in_it.first =
            ends_given may (length now) (next_on (next_of pins column) now (group in_it.first)) (owned now (group in_it.first)) (gives_up (next_of pins column) now spans (group in_it.first)) (group in_it.first) ends.these
            (gives_same net in_it.first in_it.holds ∙ is) ends.ends in
            subst (λ i. Contains done.ended i) (id_of_line now apart id held.there)
            (ended_from (line_of (ids now) id) (ends.all (line_of (ids now) id) (subst (λ l. Contains l (line_of (ids now) id)) (sym all) in_it.member)));
      } where
        step : (b : Bool) → not b ≡ true → b ≡ false
        step true none = absurd (cc none)
        step false none = refl

  -- of a group that is not given up all lines end but one
  kept_of : (net id : ℕ) (in_it : IsGrouped net id) → gives net ≡ false → KeepsOne (group in_it.first) (ends_of_group in_it.first in_it.begins).these
  kept_of net id in_it is =
      let ends = ends_of_group in_it.first in_it.begins in
      ends_kept may (length now) (next_on (next_of pins column) now (group in_it.first)) (owned now (group in_it.first)) (gives_up (next_of pins column) now spans (group in_it.first)) (group in_it.first) ends.these
      (line_of (ids now) id) (gives_same net in_it.first in_it.holds ∙ is) in_it.member ends.ends

  goes_on : (net : ℕ) → 0 < net → gives net ≡ false → GoesOn pins column now done net
  goes_on net some is = record {
    wanted = elim (both_false (is_ending (next_of pins column net)) (is_split spans (neighbours now) net) is) [
      | inl later ↦ inl (HasLaterPin-from pins column net some later)
      | inr parted ↦ inr (split net parted)
    ];
    kept = λ id held.
        let in_it = group_of net id held in
        let ends = ends_of_group in_it.first in_it.begins in
        let one = kept_of net id in_it is in
        let inside = linked_in net in_it.first one.kept in_it.holds one.member in (
          id_on now one.kept,
          record {
            held = Holds-from now apart net one.kept inside.0;
            goes_on = λ ended. one.goes_on (ends.only one.kept one.member (ended_to net one.kept inside.0 ended));
            linked = Grouped-trans now apart vs spans drawn (Grouped-sym now apart vs spans drawn in_it.linked) inside.1;
          },
        );
    one_kept = λ a b first second a_goes b_goes linked.
        let in_it = group_of net a first in
        let ends = ends_of_group in_it.first in_it.begins in
        let one = kept_of net a in_it is in
        let other = group_of net b second in
        let same : in_it.first ≡ other.first =
        one_group now apart vs spans drawn in_it.first other.first (line_of (ids now) a) (line_of (ids now) b) in_it.begins other.begins in_it.member other.member
        (subst (λ i. Grouped now vs i (id_on now (line_of (ids now) b))) (sym (id_of_line now apart a first.there))
        (subst (λ i. Grouped now vs a i) (sym (id_of_line now apart b second.there)) linked)) in
        let there : Contains (group in_it.first) (line_of (ids now) b) = subst (λ f. Contains (group f) (line_of (ids now) b)) (sym same) other.member in
        let is_kept : (id : ℕ) → Holds now net id → (Contains done.ended id → ⊥) → Contains (group in_it.first) (line_of (ids now) id) → line_of (ids now) id ≡ one.kept =
        λ id held goes member. elim (cases_eq (line_of (ids now) id) one.kept) [
          | inl equal ↦ equal
          | inr apart_lines ↦ absurd (goes (subst (λ i. Contains done.ended i) (id_of_line now apart id held.there)
              (ended_from (line_of (ids now) id) (ends.all (line_of (ids now) id) (one.others (line_of (ids now) id) member apart_lines)))))
        ] in
        let lines : line_of (ids now) a ≡ line_of (ids now) b = is_kept a first a_goes in_it.member ∙ sym (is_kept b second b_goes there) in
        sym (id_of_line now apart a first.there) ∙ ap (id_on now) lines ∙ id_of_line now apart b second.there;
  }

  -- each net that holds a track gives up all its tracks, or keeps one of each group
  pub keeps : (net id : ℕ) → Holds now net id → GivesUp pins column now done net ⊎ GoesOn pins column now done net
  keeps net id held = step (gives net) refl where
    step : (b : Bool) → gives net ≡ b → GivesUp pins column now done net ⊎ GoesOn pins column now done net
    step true is = inl (given_up net held.net_is is)
    step false is = inr (goes_on net held.net_is is)
