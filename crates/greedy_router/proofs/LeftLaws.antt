use Rattle.std.proofs.Common.{◌≡◌, ◌⊎◌, inl, inr, eqb, ℕ, List, [], ◌∷◌, true, false, map, refl, sym, subst, ap, ◌∙◌, arith, Contains, eqb-true, eq-eqb}
use Rattle.std.proofs.lemmas.Bool.{cases_Bool, or_cases, or_left, or_right}
use Rattle.std.specs.List.{list_any}
use Rattle.channel_model.specs.Pins.{Pins}
use Rattle.greedy_column.specs.declared.column.Track.{Track}
use Rattle.greedy_column.specs.declared.column.Column.{Column}
use Rattle.greedy_column.specs.Tracks.{ids, held_by}
use Rattle.greedy_column.specs.Replay.{entered, freed, after}
use Rattle.greedy_column.specs.Neighbours.{Holds}
use Rattle.greedy_column.specs.Lawful.{IsLawful, IsMove}
use Rattle.greedy_column.specs.State.{AreNumbered}
use Rattle.greedy_column.proofs.IdLaws.{Apart, Apart-from, ids-freed}
use Rattle.greedy_router.specs.SweepWiring.{leaves}
use Rattle.greedy_router.proofs.OrderLaws.{ids-after}
use Rattle.greedy_column.proofs.EnteredLaws.{target-free}
use Rattle.greedy_router.proofs.MovedLaws.{sources, targets, freed-kept, freed-gone, moved-other, moved-gone, moved-to}
use Rattle.std_laws.proofs.Members.{member-none, member-cases, map-member, map-cases, any-cases, any-member}

-- of what a map keeps apart, what is mapped to one is one
pub one_of_apart : {X : Type 0} (f : X → ℕ) (xs : List X) (x y : X) → Apart (map f xs) → Contains xs x → Contains xs y → f x ≡ f y → x ≡ y
one_of_apart f [] x y apart first second same = absurd (member-none x first)
one_of_apart f (z ∷ zs) x y apart first second same = elim (member-cases z zs x first) [
  | inl here ↦ elim (member-cases z zs y second) [
    | inl too ↦ sym here ∙ too
    | inr later ↦ absurd (apart.0 (subst (λ n. Contains (map f zs) n) (sym (ap f here ∙ same)) (map-member f zs y later)))
  ]
  | inr later ↦ elim (member-cases z zs y second) [
    | inl here ↦ absurd (apart.0 (subst (λ n. Contains (map f zs) n) (same ∙ ap f (sym here)) (map-member f zs x later)))
    | inr too ↦ one_of_apart f zs x y apart.1 later too same
  ]
]

-- a track that a net leaves ends, or is moved from
pub leaves-cases : (done : Column) (id : ℕ) → leaves done id ≡ true → Contains done.ended id ⊎ ((new : ℕ) × Contains done.moves (id, new))
leaves-cases done id left = elim (or_cases (list_any (λ ended. eqb ended id) done.ended) (list_any (λ (move : ℕ × ℕ). eqb move.0 id) done.moves) left) [
  | inl ends ↦ let found = any-cases (λ ended. eqb ended id) done.ended ends in inl (subst (λ i. Contains done.ended i) (eqb-true found.0 id found.2) found.1)
  | inr moves ↦
      let found = any-cases (λ (move : ℕ × ℕ). eqb move.0 id) done.moves moves in
      inr (found.0.1, subst (λ i. Contains done.moves (i, found.0.1)) (eqb-true found.0.0 id found.2) found.1)
]

pub leaves-ended : (done : Column) (id : ℕ) → Contains done.ended id → leaves done id ≡ true
leaves-ended done id member =
    or_left (list_any (λ ended. eqb ended id) done.ended) (list_any (λ (move : ℕ × ℕ). eqb move.0 id) done.moves)
    (any-member (λ ended. eqb ended id) done.ended id member (eq-eqb id id refl))

pub leaves-moved : (done : Column) (old new : ℕ) → Contains done.moves (old, new) → leaves done old ≡ true
leaves-moved done old new member =
    or_right (list_any (λ ended. eqb ended old) done.ended) (list_any (λ (move : ℕ × ℕ). eqb move.0 old) done.moves)
    (any-member (λ (move : ℕ × ℕ). eqb move.0 old) done.moves (old, new) member (eq-eqb old old refl))

-- where a net on a track that goes on is after the column: on that track or on one to which it moves
abbrev pub Goes : Column → ℕ → ℕ → Type 0
Goes done old new = ((old ≡ new) × (leaves done old ≡ false)) ⊎ Contains done.moves (old, new)

-- a track that a net holds after a column, and the one from which it came
pub record CameFrom (now : List Track) (done : Column) (net new : ℕ) : Type 0 where
  pub old : ℕ
  pub held : Holds now net old
  pub kept : Contains done.ended old → ⊥
  pub goes : Goes done old new

module _ (pins : Pins) (column fresh : ℕ) (before : List Track) (done : Column) (numbered : AreNumbered fresh before)
    (lawful : IsLawful pins column fresh before done) where
  abbrev now : List Track
  now = entered pins column done before

  abbrev later : List Track
  later = after pins column done before

  abbrev kept : List Track
  kept = freed done.ended now

  in_kept : (id : ℕ) → Contains (ids now) id → Contains (ids kept) id
  in_kept id member = subst (λ l. Contains l id) (sym (ids-freed done.ended now)) member

  move_of : (m : ℕ × ℕ) → Contains done.moves m → IsMove before now done m.0 m.1
  move_of m member = lawful.moves m.0 m.1 member

  source_held : (id : ℕ) → Contains (sources done.moves) id → (net : ℕ) × Holds now net id
  source_held id member =
      let from = map-cases (λ (m : ℕ × ℕ). m.0) done.moves id member in
      subst (λ i. (net : ℕ) × Holds now net i) from.2 (move_of from.0 from.1).held

  target_free : (id : ℕ) → Contains (targets done.moves) id → Contains (ids now) id × (held_by now id ≡ 0)
  target_free id member =
      let from = map-cases (λ (m : ℕ × ℕ). m.1) done.moves id member in
      subst (λ i. Contains (ids now) i × (held_by now i ≡ 0)) from.2
      (target-free pins column fresh before done numbered lawful from.0.0 from.0.1 (move_of from.0 from.1))

  -- a track that is held is not moved to
  held_no_target : (net id : ℕ) → Holds now net id → Contains (targets done.moves) id → ⊥
  held_no_target net id held member = let free = (target_free id member).1 in let some = held.net_is in omega (arith, some, held.held, free)

  -- a track that a net leaves is held, and free after the column
  pub left-held : (id : ℕ) → leaves done id ≡ true → (net : ℕ) × Holds now net id
  left-held id left = elim (leaves-cases done id left) [
    | inl ends ↦ lawful.ended_held id ends
    | inr (new, member) ↦ (move_of (id, new) member).held
  ]

  pub left-free : (id : ℕ) → leaves done id ≡ true → held_by later id ≡ 0
  left-free id left =
      let held = left-held id left in
      elim (leaves-cases done id left) [
        | inl ends ↦
            moved-other done.moves kept id
            (λ member.
            let from = map-cases (λ (m : ℕ × ℕ). m.0) done.moves id member in
            (move_of from.0 from.1).goes_on (subst (λ i. Contains done.ended i) (sym from.2) ends))
            (held_no_target held.0 id held.1)
            ∙ freed-gone done.ended now id ends
        | inr (new, member) ↦
            moved-gone done.moves kept id (in_kept id held.1.there) (map-member (λ (m : ℕ × ℕ). m.0) done.moves (id, new) member) (held_no_target held.0 id held.1)
      ]

  not_left : (id : ℕ) → leaves done id ≡ false → (Contains done.ended id → ⊥) × (Contains (sources done.moves) id → ⊥)
  not_left id left = (
    (λ member. cc (leaves-ended done id member, left)),
    (λ member.
        let from = map-cases (λ (m : ℕ × ℕ). m.0) done.moves id member in
        cc (ap (leaves done) from.2, leaves-moved done from.0.0 from.0.1 from.1, left)),
  )

  -- a net that goes on holds the track after the column
  pub goes-on : (net old new : ℕ) → Holds now net old → (Contains done.ended old → ⊥) → Goes done old new → Holds later net new
  goes-on net old new held kept_on (inl (same, left)) =
      let none = not_left old left in
      subst (λ i. Holds later net i) same (record {
        net_is = held.net_is;
        there = subst (λ l. Contains l old) (sym (ids-after pins column before done)) held.there;
        held = moved-other done.moves kept old none.1 (held_no_target net old held) ∙ freed-kept done.ended now old none.0 ∙ held.held;
      })
  goes-on net old new held kept_on (inr member) =
      let there = (target-free pins column fresh before done numbered lawful old new (move_of (old, new) member)).0 in
      record {
        net_is = held.net_is;
        there = subst (λ l. Contains l new) (sym (ids-after pins column before done)) there;
        held =
            moved-to done.moves kept old new (Apart-from (sources done.moves) lawful.moved_once) (Apart-from (targets done.moves) lawful.moved_apart)
            (λ id from to. let own = source_held id from in held_no_target own.0 id own.1 to) (in_kept new there) member
            ∙ freed-kept done.ended now old kept_on ∙ held.held;
      }

  -- each track that is not ended goes on somewhere
  pub goes-somewhere : (net old : ℕ) → Holds now net old → (Contains done.ended old → ⊥) → (new : ℕ) × Goes done old new
  goes-somewhere net old held kept_on = elim (cases_Bool (leaves done old)) [
    | inl left ↦ elim (leaves-cases done old left) [ inl ends ↦ absurd (kept_on ends) | inr (new, member) ↦ (new, inr member) ]
    | inr stays ↦ (old, inl (refl, stays))
  ]

  -- what a net holds after a column came from a track that it held
  pub came-from : (net new : ℕ) → Holds later net new → CameFrom now done net new
  came-from net new held =
      let there : Contains (ids now) new = subst (λ l. Contains l new) (ids-after pins column before done) held.there in
      let some = held.net_is in
      elim (cases_Bool (list_any (λ (move : ℕ × ℕ). eqb move.1 new) done.moves)) [
        | inl moves ↦
            let found = any-cases (λ (move : ℕ × ℕ). eqb move.1 new) done.moves moves in
            let member : Contains done.moves (found.0.0, new) = subst (λ i. Contains done.moves (found.0.0, i)) (eqb-true found.0.1 new found.2) found.1 in
            let move = move_of (found.0.0, new) member in
            let own = move.held in
            let again = goes-on own.0 found.0.0 new own.1 move.goes_on (inr member) in
            record {
              old = found.0.0;
              held = subst (λ n. Holds now n found.0.0) (sym again.held ∙ held.held) own.1;
              kept = move.goes_on;
              goes = inr member;
            }
        | inr none ↦
            let no_target : Contains (targets done.moves) new → ⊥ = λ member.
            let from = map-cases (λ (m : ℕ × ℕ). m.1) done.moves new member in
            cc (any-member (λ (move : ℕ × ℕ). eqb move.1 new) done.moves from.0 from.1 (eq-eqb from.0.1 new from.2), none) in
            elim (cases_Bool (leaves done new)) [
              | inl left ↦ let free = left-free new left in absurd (omega (arith, some, held.held, free))
              | inr stays ↦
                  let both = not_left new stays in
                  record {
                    old = new;
                    held = record {
                      net_is = held.net_is;
                      there = there;
                      held = sym (freed-kept done.ended now new both.0) ∙ sym (moved-other done.moves kept new both.1 no_target) ∙ held.held;
                    };
                    kept = both.0;
                    goes = inl (refl, stays);
                  }
            ]
      ]

  -- two tracks do not go on as one
  pub goes-apart : (net other one two new : ℕ) → Holds now net one → Holds now other two → Goes done one new → Goes done two new → one ≡ two
  goes-apart net other one two new first second (inl (same, stays)) (inl (too, also)) = same ∙ sym too
  goes-apart net other one two new first second (inl (same, stays)) (inr member) =
      absurd (held_no_target net one first (subst (λ i. Contains (targets done.moves) i) (sym same) (map-member (λ (m : ℕ × ℕ). m.1) done.moves (two, new) member)))
  goes-apart net other one two new first second (inr member) (inl (same, stays)) =
      absurd (held_no_target other two second (subst (λ i. Contains (targets done.moves) i) (sym same) (map-member (λ (m : ℕ × ℕ). m.1) done.moves (one, new) member)))
  goes-apart net other one two new first second (inr member) (inr too) =
      ap (λ (m : ℕ × ℕ). m.0)
      (one_of_apart (λ (m : ℕ × ℕ). m.1) done.moves (one, new) (two, new) (Apart-from (targets done.moves) lawful.moved_apart) member too refl)

  -- a track that is held in the column is held by the same net after it, or by none
  pub same-or-none : (net other id : ℕ) → Holds now net id → Holds later other id → net ≡ other
  same-or-none net other id held after_it =
      let from = came-from other id after_it in
      elim from.goes [
        | inl (same, stays) ↦ sym held.held ∙ subst (λ i. held_by now i ≡ other) same from.held.held
        | inr member ↦ absurd (held_no_target net id held (map-member (λ (m : ℕ × ℕ). m.1) done.moves (from.old, id) member))
      ]
