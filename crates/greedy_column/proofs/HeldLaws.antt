use Rattle.std.proofs.Common.{◌≡◌, ◌≢◌, ◌⊎◌, inl, inr, ◌<◌, eqb, ℕ, zero, suc, List, [], ◌∷◌, Bool, true, false, cond, length, map, refl, sym, subst, ap, ◌∙◌, arith, Contains, eqb-true}
use Rattle.std.proofs.lemmas.Bool.{cond-true, cond-false, ne_eqb, eqb-false}
use Rattle.std.specs.List.{insert}
use Rattle.channel_model.specs.Pins.{Pins}
use Rattle.greedy_column.specs.declared.column.Track.{Track}
use Rattle.greedy_column.specs.declared.column.Made.{Made}
use Rattle.greedy_column.specs.declared.column.Column.{Column}
use Rattle.greedy_column.specs.Tracks.{ids, held_by, given, hold}
use Rattle.greedy_column.specs.Replay.{top_pin, bottom_pin, with_made, entered}
use Rattle.greedy_column.specs.Lawful.{AreMadeFrom, TopEnters, WasFree}
use Rattle.greedy_column.specs.State.{AreNumbered}
use Rattle.greedy_column.proofs.IdLaws.{ids-insert, ids-hold, ids-entered, AreNumbered-with_made}
use Rattle.greedy_column.proofs.LawfulLaws.{AreEntered}
use Rattle.std_laws.proofs.Members.{member-none, member-head, member-tail, member-cases, map-cases}
use Rattle.std_laws.proofs.Inserted.{insert-cases}

-- a track that is given to a net is the net's, and any other keeps its own
given_own : (id net rest : ℕ) (t : Track) → (t.id ≢ id → rest ≡ net) → cond (eqb (given id net t).id id) (given id net t).net rest ≡ net
given_own id net rest t later = step (eqb t.id id) refl where
  step : (b : Bool) → eqb t.id id ≡ b → cond (eqb (cond b (record { id = t.id; net = net }) t).id id) (cond b (record { id = t.id; net = net }) t).net rest ≡ net
  step true is = cond-true (eqb t.id id) net rest is
  step false is = cond-false (eqb t.id id) t.net rest is ∙ later (eqb-false t.id id is)

pub held_by-given : (tracks : List Track) (id net : ℕ) → Contains (ids tracks) id → held_by (hold id net tracks) id ≡ net
held_by-given [] id net member = absurd (member-none id member)
held_by-given (t ∷ tracks) id net member =
    given_own id net (held_by (hold id net tracks) id) t
    (λ other. held_by-given tracks id net (elim (member-cases t.id (ids tracks) id member) [ inl same ↦ absurd (other same) | inr later ↦ later ]))

given_other : (id net other rest again : ℕ) (t : Track) → id ≢ other → rest ≡ again
    → cond (eqb (given id net t).id other) (given id net t).net rest ≡ cond (eqb t.id other) t.net again
given_other id net other rest again t apart same_rest = step (eqb t.id id) refl where
  step : (b : Bool) → eqb t.id id ≡ b
      → cond (eqb (cond b (record { id = t.id; net = net }) t).id other) (cond b (record { id = t.id; net = net }) t).net rest ≡ cond (eqb t.id other) t.net again
  step true is =
      let none : eqb t.id other ≡ false = ne_eqb t.id other (λ equal. apart (sym (eqb-true t.id id is) ∙ equal)) in
      cond-false (eqb t.id other) net rest none ∙ same_rest ∙ sym (cond-false (eqb t.id other) t.net again none)
  step false is = ap (λ n. cond (eqb t.id other) t.net n) same_rest

pub held_by-other : (tracks : List Track) (id net other : ℕ) → id ≢ other → held_by (hold id net tracks) other ≡ held_by tracks other
held_by-other [] id net other apart = refl
held_by-other (t ∷ tracks) id net other apart =
    given_other id net other (held_by (hold id net tracks) other) (held_by tracks other) t apart (held_by-other tracks id net other apart)

held_by-inserted : (t : Track) (tracks : List Track) (k other : ℕ) → t.id ≢ other → held_by (insert tracks k t) other ≡ held_by tracks other
held_by-inserted t tracks zero other apart = cond-false (eqb t.id other) t.net (held_by tracks other) (ne_eqb t.id other apart)
held_by-inserted t [] (suc k) other apart = cond-false (eqb t.id other) t.net 0 (ne_eqb t.id other apart)
held_by-inserted t (u ∷ tracks) (suc k) other apart = ap (λ n. cond (eqb u.id other) u.net n) (held_by-inserted t tracks k other apart)

-- a track that stood before keeps its net when others are made
pub held_by-with_made : (fresh count : ℕ) (tracks : List Track) (made : List Made) (id : ℕ) → AreMadeFrom fresh count made → id < fresh
    → held_by (with_made tracks made) id ≡ held_by tracks id
held_by-with_made fresh count tracks [] id placed old = refl
held_by-with_made fresh count tracks (m ∷ made) id placed old =
    held_by-with_made (suc fresh) (suc count) (insert tracks m.below (record { id = m.id; net = 0 })) made id placed.2 (omega (arith, old))
    ∙ held_by-inserted (record { id = m.id; net = 0 }) tracks m.below id (λ same. omega (arith, old, placed.0, same))

-- where a track comes from
pub in_with_made : (tracks : List Track) (made : List Made) (id : ℕ) → Contains (ids (with_made tracks made)) id
    → Contains (ids tracks) id ⊎ Contains (map (λ (m : Made). m.id) made) id
in_with_made tracks [] id member = inl member
in_with_made tracks (m ∷ made) id member =
    elim (in_with_made (insert tracks m.below (record { id = m.id; net = 0 })) made id member) [
      | inl here ↦ elim (insert-cases m.id id (ids tracks) m.below (subst (λ l. Contains l id) (ids-insert (record { id = m.id; net = 0 }) tracks m.below) here)) [
        | inl same ↦ inr (subst (λ n. Contains (m.id ∷ map (λ (o : Made). o.id) made) n) same (member-head m.id (map (λ (o : Made). o.id) made)))
        | inr old ↦ inl old
      ]
      | inr later ↦ inr (member-tail m.id (map (λ (o : Made). o.id) made) id later)
    ]

module _ (pins : Pins) (column fresh : ℕ) (before : List Track) (done : Column) (numbered : AreNumbered fresh before)
    (made : AreMadeFrom fresh (length before) done.made)
    (made_entered : (m : Made) → Contains done.made m → (m.id ≡ done.top) ⊎ (m.id ≡ done.bottom)) (entries : AreEntered pins column before done) where
  top_some : TopEnters pins column before → 0 < top_pin pins column
  top_some (inl two) = two.0
  top_some (inr straight) = straight.equal.some

  -- a track that the pins have entered is held
  top_held : (id : ℕ) → Contains (ids (with_made before done.made)) id → 0 < id → held_by (entered pins column done before) id ≡ 0 → id ≢ done.top
  top_held id member positive free same =
      let inner : List Track = hold done.bottom (bottom_pin pins column) (with_made before done.made) in
      let there : Contains (ids inner) done.top =
      subst (λ l. Contains l done.top) (sym (ids-hold done.bottom (bottom_pin pins column) (with_made before done.made)))
      (subst (λ n. Contains (ids (with_made before done.made)) n) same member) in
      let held : held_by (entered pins column done before) done.top ≡ top_pin pins column = held_by-given inner done.top (top_pin pins column) there in
      let some = top_some (entries.top_none (omega (arith, positive, same))) in
      omega (arith, some, held, free, ap (held_by (entered pins column done before)) same)

  bottom_held : (id : ℕ) → Contains (ids (with_made before done.made)) id → 0 < id → held_by (entered pins column done before) id ≡ 0 → id ≢ done.top → id ≢ done.bottom
  bottom_held id member positive free other same =
      let inner : List Track = hold done.bottom (bottom_pin pins column) (with_made before done.made) in
      let there : Contains (ids (with_made before done.made)) done.bottom = subst (λ n. Contains (ids (with_made before done.made)) n) same member in
      let held : held_by (entered pins column done before) done.bottom ≡ bottom_pin pins column =
      held_by-other inner done.top (top_pin pins column) done.bottom (λ equal. other (same ∙ sym equal))
      ∙ held_by-given (with_made before done.made) done.bottom (bottom_pin pins column) there in
      let some = (entries.bottom_none (omega (arith, positive, same))).0 in
      omega (arith, some, held, free, ap (held_by (entered pins column done before)) same)

  -- what is free once the pins have entered was free before, and no pin enters it
  pub was_free : (id : ℕ) → Contains (ids (entered pins column done before)) id → held_by (entered pins column done before) id ≡ 0
      → WasFree before id × (id ≢ done.top) × (id ≢ done.bottom)
  was_free id member free =
      let there : Contains (ids (with_made before done.made)) id = subst (λ l. Contains l id) (ids-entered pins column before done) member in
      let positive = (AreNumbered-with_made fresh (length before) before done.made numbered made).positive id there in
      let not_top = top_held id there positive free in
      let not_bottom = bottom_held id there positive free not_top in
      let old : Contains (ids before) id = elim (in_with_made before done.made id there) [
        | inl before_it ↦ before_it
        | inr new ↦
            let from = map-cases (λ (m : Made). m.id) done.made id new in
            elim (made_entered from.0 from.1) [ inl top ↦ absurd (not_top (sym from.2 ∙ top)) | inr bottom ↦ absurd (not_bottom (sym from.2 ∙ bottom)) ]
      ] in
      let same : held_by (entered pins column done before) id ≡ held_by before id =
      held_by-other (hold done.bottom (bottom_pin pins column) (with_made before done.made)) done.top (top_pin pins column) id (λ equal. not_top (sym equal))
      ∙ held_by-other (with_made before done.made) done.bottom (bottom_pin pins column) id (λ equal. not_bottom (sym equal))
      ∙ held_by-with_made fresh (length before) before done.made id made (numbered.below id old) in
      (record { there = old; free = sym same ∙ free }, not_top, not_bottom)
