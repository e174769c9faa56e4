use Rattle.std.proofs.Common.{◌≡◌, ◌≢◌, ◌⊎◌, inl, inr, ◌<◌, ◌≤◌, ℕ, suc, List, [], ◌∷◌, length, map, sym, subst, ap, ◌∙◌, arith, Contains}
use Rattle.std.proofs.lemmas.Bool.{cases_eq}
use Rattle.std.specs.List.{insert}
use Rattle.channel_model.specs.Pins.{Pins}
use Rattle.greedy_column.specs.declared.column.Track.{Track}
use Rattle.greedy_column.specs.declared.column.Made.{Made}
use Rattle.greedy_column.specs.declared.column.Column.{Column}
use Rattle.greedy_column.specs.Tracks.{ids, held_by, hold}
use Rattle.greedy_column.specs.Replay.{top_pin, bottom_pin, with_made, entered}
use Rattle.greedy_column.specs.Neighbours.{Holds}
use Rattle.greedy_column.specs.Lawful.{IsLawful, AreMadeFrom, TopEnters, BottomEnters, MayEnter, IsMove}
use Rattle.greedy_column.specs.State.{AreNumbered}
use Rattle.greedy_column.proofs.IdLaws.{Apart, ids-insert, ids-hold, ids-entered, AreNumbered-with_made}
use Rattle.greedy_column.proofs.HeldLaws.{held_by-given, held_by-other, held_by-with_made, in_with_made}
use Rattle.greedy_column.proofs.FairLaws.{Apart-entered}
use Rattle.std_laws.proofs.Members.{member-none, member-cases, map-cases}
use Rattle.std_laws.proofs.Inserted.{insert-new, insert-old}

-- what stood before stands when others are made, and so do these
in_made_old : (tracks : List Track) (made : List Made) (id : ℕ) → Contains (ids tracks) id → Contains (ids (with_made tracks made)) id
in_made_old tracks [] id member = member
in_made_old tracks (m ∷ made) id member =
    in_made_old (insert tracks m.below (record { id = m.id; net = 0 })) made id
    (subst (λ l. Contains l id) (sym (ids-insert (record { id = m.id; net = 0 }) tracks m.below)) (insert-old m.id id (ids tracks) m.below member))

in_made_new : (tracks : List Track) (made : List Made) (id : ℕ) → Contains (map (λ (m : Made). m.id) made) id → Contains (ids (with_made tracks made)) id
in_made_new tracks [] id member = absurd (member-none id member)
in_made_new tracks (m ∷ made) id member = elim (member-cases m.id (map (λ (o : Made). o.id) made) id member) [
  | inl same ↦ in_made_old (insert tracks m.below (record { id = m.id; net = 0 })) made id
      (subst (λ l. Contains l id) (sym (ids-insert (record { id = m.id; net = 0 }) tracks m.below))
      (subst (λ n. Contains (insert (ids tracks) m.below m.id) n) same (insert-new m.id (ids tracks) m.below)))
  | inr later ↦ in_made_new (insert tracks m.below (record { id = m.id; net = 0 })) made id later
]

-- an id that is made is new
made_new : (fresh count : ℕ) (made : List Made) (m : Made) → AreMadeFrom fresh count made → Contains made m → fresh ≤ m.id
made_new fresh count [] m placed member = absurd (member-none m member)
made_new fresh count (n ∷ made) m placed member = elim (member-cases n made m member) [
  | inl same ↦ omega (arith, placed.0, ap (λ (o : Made). o.id) same)
  | inr later ↦ let above = made_new (suc fresh) (suc count) made m placed.2 later in omega (arith, above)
]

module _ (pins : Pins) (column fresh : ℕ) (before : List Track) (done : Column) (numbered : AreNumbered fresh before)
    (lawful : IsLawful pins column fresh before done) where
  abbrev now : List Track
  now = entered pins column done before

  abbrev inner : List Track
  inner = hold done.bottom (bottom_pin pins column) (with_made before done.made)

  pub now-apart : Apart (ids now)
  now-apart = Apart-entered pins column fresh (length before) before done numbered lawful.made

  pub now-positive : (id : ℕ) → Contains (ids now) id → 0 < id
  now-positive id member =
      (AreNumbered-with_made fresh (length before) before done.made numbered lawful.made).positive id
      (subst (λ l. Contains l id) (ids-entered pins column before done) member)

  pub in-now : (id : ℕ) → Contains (ids before) id → Contains (ids now) id
  in-now id member = subst (λ l. Contains l id) (sym (ids-entered pins column before done)) (in_made_old before done.made id member)

  may_in : (net id : ℕ) → MayEnter before done net id → Contains (ids now) id
  may_in net id (inl (inl free)) = in-now id free.there
  may_in net id (inl (inr own)) = in-now id own.there
  may_in net id (inr new) = subst (λ l. Contains l id) (sym (ids-entered pins column before done)) (in_made_new before done.made id new)

  made_is_new : (id : ℕ) → Contains (map (λ (m : Made). m.id) done.made) id → fresh ≤ id
  made_is_new id member =
      let from = map-cases (λ (m : Made). m.id) done.made id member in
      let above = made_new fresh (length before) done.made from.0 lawful.made from.1 in
      omega (arith, above, from.2)

  in_inner : (id : ℕ) → Contains (ids now) id → Contains (ids inner) id
  in_inner id member = subst (λ l. Contains l id) (ids-hold done.top (top_pin pins column) inner) member

  in_with : (id : ℕ) → Contains (ids now) id → Contains (ids (with_made before done.made)) id
  in_with id member = subst (λ l. Contains l id) (ids-entered pins column before done) member

  -- who holds the tracks that the pins enter
  pub top-there : TopEnters pins column before → Contains (ids now) done.top
  top-there enters = may_in (top_pin pins column) done.top (lawful.top_enters enters)

  pub bottom-there : BottomEnters pins column → Contains (ids now) done.bottom
  bottom-there enters = may_in (bottom_pin pins column) done.bottom (lawful.bottom_enters enters)

  held_top : Contains (ids now) done.top → held_by now done.top ≡ top_pin pins column
  held_top member = held_by-given inner done.top (top_pin pins column) (in_inner done.top member)

  held_bottom : Contains (ids now) done.bottom → done.top ≢ done.bottom → held_by now done.bottom ≡ bottom_pin pins column
  held_bottom member other =
      held_by-other inner done.top (top_pin pins column) done.bottom other
      ∙ held_by-given (with_made before done.made) done.bottom (bottom_pin pins column) (in_with done.bottom member)

  held_else : (id : ℕ) → done.top ≢ id → done.bottom ≢ id → held_by now id ≡ held_by (with_made before done.made) id
  held_else id top bottom =
      held_by-other inner done.top (top_pin pins column) id top
      ∙ held_by-other (with_made before done.made) done.bottom (bottom_pin pins column) id bottom

  held_same : (id : ℕ) → Contains (ids before) id → done.top ≢ id → done.bottom ≢ id → held_by now id ≡ held_by before id
  held_same id member top bottom =
      held_else id top bottom ∙ held_by-with_made fresh (length before) before done.made id lawful.made (numbered.below id member)

  pub top-holds : TopEnters pins column before → Holds now (top_pin pins column) done.top
  top-holds enters = record {
    net_is = elim enters [ inl own ↦ own.0 | inr straight ↦ straight.equal.some ];
    there = top-there enters;
    held = held_top (top-there enters);
  }

  pub bottom-holds : BottomEnters pins column → Holds now (bottom_pin pins column) done.bottom
  bottom-holds enters =
      let some = now-positive done.bottom (bottom-there enters) in
      record {
        net_is = enters.0;
        there = bottom-there enters;
        held = held_bottom (bottom-there enters) (λ same. lawful.entered_once (omega (arith, some, same)) same);
      }

  -- a net keeps a track that it holds
  entered_own : (net id : ℕ) → Holds before net id → (pin : ℕ) → MayEnter before done pin id → pin ≡ net
  entered_own net id held pin (inl (inl free)) = let some = held.net_is in absurd (omega (arith, some, held.held, free.free))
  entered_own net id held pin (inl (inr own)) = sym own.held ∙ held.held
  entered_own net id held pin (inr new) =
      let above = made_is_new id new in let less = numbered.below id held.there in absurd (omega (arith, above, less))

  pub keeps-now : (net id : ℕ) → Holds before net id → Holds now net id
  keeps-now net id held = record {
    net_is = held.net_is;
    there = in-now id held.there;
    held = elim (cases_eq done.top id) [
      | inl top ↦
          let some = now-positive id (in-now id held.there) in
          let enters = lawful.top_none (omega (arith, some, top)) in
          let own = entered_own net id held (top_pin pins column) (subst (λ i. MayEnter before done (top_pin pins column) i) top (lawful.top_enters enters)) in
          subst (λ i. held_by now i ≡ net) top (held_top (top-there enters) ∙ own)
      | inr other ↦ elim (cases_eq done.bottom id) [
        | inl bottom ↦
            let some = now-positive id (in-now id held.there) in
            let enters = lawful.bottom_none (omega (arith, some, bottom)) in
            let own = entered_own net id held (bottom_pin pins column) (subst (λ i. MayEnter before done (bottom_pin pins column) i) bottom (lawful.bottom_enters enters)) in
            subst (λ i. held_by now i ≡ net) bottom (held_bottom (bottom-there enters) (λ same. other (same ∙ bottom)) ∙ own)
        | inr neither ↦ held_same id held.there other neither ∙ held.held
      ]
    ];
  }

  -- a net holds a track once the pins have entered: it held it before, or it has a pin here
  pub from-before : (net id : ℕ) → Holds now net id → Holds before net id ⊎ ((top_pin pins column ≡ net) ⊎ (bottom_pin pins column ≡ net))
  from-before net id held = elim (cases_eq done.top id) [
    | inl top ↦ inr (inl (sym (held_top (subst (λ i. Contains (ids now) i) (sym top) held.there)) ∙ ap (held_by now) top ∙ held.held))
    | inr other ↦ elim (cases_eq done.bottom id) [
      | inl bottom ↦
          inr (inr (sym (held_bottom (subst (λ i. Contains (ids now) i) (sym bottom) held.there) (λ same. other (same ∙ bottom))) ∙ ap (held_by now) bottom ∙ held.held))
      | inr neither ↦ elim (in_with_made before done.made id (in_with id held.there)) [
        | inl old ↦ inl (record { net_is = held.net_is; there = old; held = sym (held_same id old other neither) ∙ held.held })
        | inr new ↦
            let from = map-cases (λ (m : Made). m.id) done.made id new in
            absurd (elim (lawful.made_entered from.0 from.1) [
              | inl top ↦ other (sym top ∙ from.2)
              | inr bottom ↦ neither (sym bottom ∙ from.2)
            ])
      ]
    ]
  ]

  -- the track to which a net moves is free
  pub target-free : (old new : ℕ) → IsMove before now done old new → Contains (ids now) new × (held_by now new ≡ 0)
  target-free old new move = (
    in-now new move.free.there,
    held_same new move.free.there (λ same. move.not_top (sym same)) (λ same. move.not_bottom (sym same)) ∙ move.free.free,
  )
