use Rattle.std.proofs.Common.{◌≡◌, ◌<◌, ◌≤◌, ◌+◌, ◌&&◌, ◌↔◌, not, eqb, ◌++◌, ℕ, zero, suc, List, [], ◌∷◌, Contains, Bool, false, length, map, sym, subst, ap, ◌∙◌, arith, eqb-true, eq-eqb, inl, inr}
use Rattle.std.specs.Bool.{IsTrue}
use Rattle.std.proofs.lemmas.Bool.{and_parts, and_from, cases_eq, ne_eqb}
use Rattle.std.proofs.lemmas.List.{length-map, map-append}
use Rattle.std.proofs.lemmas.List.Elements.{Contains-append_cases}
use Rattle.std.proofs.lemmas.Map.Steps.{length-le_from_distinct_below}
use Rattle.channel_model.specs.Pins.{Pins}
use Rattle.choose_core.specs.declared.plan.Manner.{Manner}
use Rattle.choose_core.specs.declared.candidate.Candidate.{Candidate}
use Rattle.choose_core.specs.declared.candidate.Next.{Next}
use Rattle.greedy_column.specs.declared.column.Track.{Track}
use Rattle.greedy_column.specs.declared.column.Column.{Column}
use Rattle.greedy_column.specs.Tracks.{ids}
use Rattle.greedy_column.specs.Replay.{free_tracks, top_pin, bottom_pin, with_made, with_nets, freed, moved, entered, after}
use Rattle.greedy_column.specs.Ahead.{next_of}
use Rattle.greedy_column.specs.Lawful.{AreMadeFrom}
use Rattle.greedy_column.specs.Verticals.{verticals_of_pins}
use Rattle.greedy_column.specs.Entering.{Enters}
use Rattle.greedy_column.specs.Joining.{span_in}
use Rattle.greedy_column.specs.Follows.{Follows, FollowsOn, entries_of, pin_with}
use Rattle.greedy_column.specs.State.{AreNumbered, IsState}
use Rattle.greedy_column.proofs.IdLaws.{Apart, Apart-to, ids-entered, ids-freed, ids-moved, AreNumbered-ids, AreNumbered-with_made}
use Rattle.greedy_column.proofs.NetLaws.{AreNets, AreNets-after}
use Rattle.std_laws.proofs.Members.{any-cases, member-none, member-head, member-tail, member-only}

-- there are fewer tracks than ids have been given
pub AreNumbered-few : (fresh : ℕ) (tracks : List Track) → AreNumbered fresh tracks → length tracks ≤ fresh
AreNumbered-few fresh tracks numbered =
    let few : length (ids tracks) ≤ fresh = length-le_from_distinct_below (ids tracks) fresh numbered.distinct
    (λ q some. let found = any-cases (eqb q) (ids tracks) some in
    let less = numbered.below found.0 found.1 in let same : q ≡ found.0 = eqb-true q found.0 found.2 in omega (arith, less, same)) in
    omega (arith, few, length-map tracks (λ (t : Track). t.id))

straight_is : (a b : ℕ) (straight : Bool) → straight ≡ (eqb a b && not (eqb a 0)) → IsTrue straight ↔ ((0 < a) × (a ≡ b))
straight_is a b straight is = (there, back) where
  there : IsTrue straight → (0 < a) × (a ≡ b)
  there h = let parts = and_parts (eqb a b) (not (eqb a 0)) (sym is ∙ h) in
      let same = eqb-true a b parts.0 in (
        elim (cases_eq a 0) [
          | inl none ↦ let e : not (eqb a 0) ≡ false = ap not (eq-eqb a 0 none) in absurd (cc (e, parts.1))
          | inr some ↦ omega arith
        ],
        same,
      )

  back : (0 < a) × (a ≡ b) → IsTrue straight
  back (some, same) = is ∙ and_from (eqb a b) (not (eqb a 0)) (eq-eqb a b same) (ap not (ne_eqb a 0 (λ none. omega (arith, none, some))))

-- a record that the steps make of a channel's pins
pub Follows-from_parts : (manner : Manner) (may : List Candidate → ℕ → Type 0) (next : ℕ → Next) (pins : Pins) (column fresh : ℕ) (before : List Track) (done : Column) (a b : ℕ)
    → a ≡ top_pin pins column → b ≡ bottom_pin pins column → ((net : ℕ) → next net ≡ next_of pins column net)
    → done.straight ≡ (eqb a b && not (eqb a 0)) → Enters manner may (pin_with next a) (pin_with next b) before fresh (entries_of done)
    → FollowsOn manner may next (with_nets a done.top b done.bottom (with_made before done.made))
    (map (span_in (ids (with_nets a done.top b done.bottom (with_made before done.made)))) (verticals_of_pins done.straight a b done.top done.bottom))
    done.joins done.ended done.moves
    → Follows manner may pins column fresh before done
Follows-from_parts manner may next pins column fresh before done a b first second nexts straight enters follows =
    let same : next ≡ next_of pins column = λ i net. nexts net i in
    let told = straight_is a b done.straight straight in
    record {
      straight = (
        (λ h. let equal = told.0 h in record { some = omega (arith, equal.0, first); equal = sym first ∙ equal.1 ∙ second }),
        (λ equal. told.1 (omega (arith, equal.some, first), first ∙ equal.equal ∙ sym second)),
      );
      enters = subst (λ (n : ℕ → Next). Enters manner may (pin_with n (top_pin pins column)) (pin_with n (bottom_pin pins column)) before fresh (entries_of done)) same
          (subst (λ y. Enters manner may (pin_with next (top_pin pins column)) (pin_with next y) before fresh (entries_of done)) second
          (subst (λ x. Enters manner may (pin_with next x) (pin_with next b) before fresh (entries_of done)) first enters));
      goes_on = subst (λ (n : ℕ → Next). FollowsOn manner may n
          (with_nets (top_pin pins column) done.top (bottom_pin pins column) done.bottom (with_made before done.made))
          (map (span_in (ids (with_nets (top_pin pins column) done.top (bottom_pin pins column) done.bottom (with_made before done.made))))
          (verticals_of_pins done.straight (top_pin pins column) (bottom_pin pins column) done.top done.bottom)) done.joins done.ended done.moves) same
          (subst (λ y. FollowsOn manner may next (with_nets (top_pin pins column) done.top y done.bottom (with_made before done.made))
          (map (span_in (ids (with_nets (top_pin pins column) done.top y done.bottom (with_made before done.made))))
          (verticals_of_pins done.straight (top_pin pins column) y done.top done.bottom)) done.joins done.ended done.moves) second
          (subst (λ x. FollowsOn manner may next (with_nets x done.top b done.bottom (with_made before done.made))
          (map (span_in (ids (with_nets x done.top b done.bottom (with_made before done.made))))
          (verticals_of_pins done.straight x b done.top done.bottom)) done.joins done.ended done.moves) first follows));
    }

-- the same, from a copy of the tracks
pub Follows-from_copy : (manner : Manner) (may : List Candidate → ℕ → Type 0) (next : ℕ → Next) (pins : Pins) (column fresh : ℕ) (before copy : List Track) (done : Column) (a b : ℕ)
    → copy ≡ before → a ≡ top_pin pins column → b ≡ bottom_pin pins column → ((net : ℕ) → next net ≡ next_of pins column net)
    → done.straight ≡ (eqb a b && not (eqb a 0)) → Enters manner may (pin_with next a) (pin_with next b) copy fresh (entries_of done)
    → FollowsOn manner may next (with_nets a done.top b done.bottom (with_made copy done.made))
    (map (span_in (ids (with_nets a done.top b done.bottom (with_made copy done.made)))) (verticals_of_pins done.straight a b done.top done.bottom))
    done.joins done.ended done.moves
    → Follows manner may pins column fresh before done
Follows-from_copy manner may next pins column fresh before copy done a b copied first second nexts straight enters follows =
    Follows-from_parts manner may next pins column fresh before done a b first second nexts straight
    (subst (λ (l : List Track). Enters manner may (pin_with next a) (pin_with next b) l fresh (entries_of done)) copied enters)
    (subst (λ (l : List Track). FollowsOn manner may next (with_nets a done.top b done.bottom (with_made l done.made))
    (map (span_in (ids (with_nets a done.top b done.bottom (with_made l done.made)))) (verticals_of_pins done.straight a b done.top done.bottom))
    done.joins done.ended done.moves) copied follows)

-- after a column, a state with which the next one may begin
pub IsState-after : (pins : Pins) (column fresh : ℕ) (before : List Track) (done : Column) → AreNumbered fresh before → AreNets pins before
    → AreMadeFrom fresh (length before) done.made → (order : List Track) (next : ℕ) → order ≡ after pins column done before → next ≡ fresh + length done.made
    → IsState pins (record { order = order; fresh = next })
IsState-after pins column fresh before done numbered nets made order next order_is next_is =
    let now : List Track = entered pins column done before in
    let same : ids (after pins column done before) ≡ ids (with_made before done.made) =
    ids-moved done.moves (freed done.ended now) ∙ ids-freed done.ended now ∙ ids-entered pins column before done in
    rw (order_is, next_is) (record {
      numbered = AreNumbered-ids (fresh + length done.made) (with_made before done.made) (after pins column done before) same
          (AreNumbered-with_made fresh (length before) before done.made numbered made);
      standing = AreNets-after pins column done before nets;
    })

-- the same, from a copy of the tracks
pub IsState-from_copy : (pins : Pins) (column fresh : ℕ) (before copy : List Track) (done : Column) (a b : ℕ) → copy ≡ before → a ≡ top_pin pins column → b ≡ bottom_pin pins column
    → AreNumbered fresh before → AreNets pins before → AreMadeFrom fresh (length before) done.made → (order : List Track) (next : ℕ)
    → order ≡ moved done.moves (freed done.ended (with_nets a done.top b done.bottom (with_made copy done.made))) → next ≡ fresh + length done.made
    → IsState pins (record { order = order; fresh = next })
IsState-from_copy pins column fresh before copy done a b copied first second numbered nets made order next order_is next_is =
    IsState-after pins column fresh before done numbered nets made order next
    (order_is ∙ (λ i. moved done.moves (freed done.ended (with_nets (first i) done.top (second i) done.bottom (with_made (copied i) done.made))))) next_is

-- the ids of free tracks are the numbers from 1 up to their count
ids-more : (n : ℕ) → ids (free_tracks (suc n)) ≡ ids (free_tracks n) ++ suc n ∷ []
ids-more n = map-append (λ (t : Track). t.id) (free_tracks n) (record { id = suc n; net = 0 } ∷ [])

pub ids-free : (n id : ℕ) → Contains (ids (free_tracks n)) id → (0 < id) × (id < n + 1)
ids-free zero id member = absurd (member-none id member)
ids-free (suc n) id member = elim (Contains-append_cases (ids (free_tracks n)) (suc n ∷ []) id (subst (λ l. Contains l id) (ids-more n) member)) [
  | inl before ↦ let h = ids-free n id before in (h.0, omega (arith, h.1))
  | inr last ↦ let same = member-only (suc n) id last in (omega (arith, same), omega (arith, same))
]

Apart-more : (x : ℕ) (xs : List ℕ) → Apart xs → (Contains xs x → ⊥) → Apart (xs ++ x ∷ [])
Apart-more x [] apart new = (member-none x, tt)
Apart-more x (y ∷ ys) apart new = (
  λ member. elim (Contains-append_cases ys (x ∷ []) y member) [
    | inl old ↦ apart.0 old
    | inr last ↦ new (subst (λ z. Contains (y ∷ ys) z) (sym (member-only x y last)) (member-head y ys))
  ],
  Apart-more x ys apart.1 (λ member. new (member-tail y ys x member)),
)

Apart-free : (n : ℕ) → Apart (ids (free_tracks n))
Apart-free zero = tt
Apart-free (suc n) = subst (λ l. Apart l) (sym (ids-more n))
    (Apart-more (suc n) (ids (free_tracks n)) (Apart-free n) (λ member. let h = ids-free n (suc n) member in omega (arith, h.1)))

-- no net holds one of them
pub nets-free : (n : ℕ) (t : Track) → Contains (free_tracks n) t → t.net ≡ 0
nets-free zero t member = absurd (member-none t member)
nets-free (suc n) t member = elim (Contains-append_cases (free_tracks n) (record { id = suc n; net = 0 } ∷ []) t member) [
  | inl before ↦ nets-free n t before
  | inr last ↦ sym (ap (λ (u : Track). u.net) (member-only (record { id = suc n; net = 0 }) t last))
]

-- with free tracks alone, and the next number as the first id
pub IsState-first : (begun : ℕ) (pins : Pins) → IsState pins (record { order = free_tracks begun; fresh = begun + 1 })
IsState-first begun pins = record {
  numbered = record {
    some = omega arith;
    positive = λ id member. (ids-free begun id member).0;
    below = λ id member. (ids-free begun id member).1;
    distinct = Apart-to (ids (free_tracks begun)) (Apart-free begun);
  };
  standing = λ t member. inl (nets-free begun t member);
}
