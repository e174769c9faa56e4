use Rattle.std.proofs.Common.{◌≡◌, inl, inr, eqb, ℕ, List, [], ◌∷◌, Bool, true, false, cond, map, refl, sym, subst, ap, ◌∙◌, Contains, eqb-true, eq-eqb}
use Rattle.std.proofs.lemmas.Bool.{cases_eq, cases_Bool, cond-true, cond-false}
use Rattle.std.specs.List.{list_any}
use Rattle.greedy_column.specs.declared.column.Track.{Track}
use Rattle.greedy_column.specs.Tracks.{ids, held_by, hold}
use Rattle.greedy_column.specs.Replay.{freed_among, freed, moved}
use Rattle.greedy_column.proofs.IdLaws.{Apart, ids-hold}
use Rattle.greedy_column.proofs.HeldCountLaws.{move_one}
use Rattle.greedy_column.proofs.HeldLaws.{held_by-given, held_by-other}
use Rattle.std_laws.proofs.Members.{member-none, member-head, member-tail, member-cases, map-member, any-cases, any-member}

-- a track that ends is free, and any other keeps its net
freed_step : (ended : List ℕ) (t : Track) (id rest : ℕ) (gone : Bool) → list_any (λ i. eqb i id) ended ≡ gone
    → cond (eqb (freed_among ended t).id id) (freed_among ended t).net (cond gone 0 rest) ≡ cond gone 0 (cond (eqb t.id id) t.net rest)
freed_step ended t id rest gone is = step (list_any (λ i. eqb i t.id) ended) (eqb t.id id) gone refl refl is where
  step : (among here gone : Bool) → list_any (λ i. eqb i t.id) ended ≡ among → eqb t.id id ≡ here → list_any (λ i. eqb i id) ended ≡ gone
      → cond (eqb (cond among (record { id = t.id; net = 0 }) t).id id) (cond among (record { id = t.id; net = 0 }) t).net (cond gone 0 rest)
      ≡ cond gone 0 (cond (eqb t.id id) t.net rest)
  step true here true one two three = elim (cases_Bool (eqb t.id id)) [ inl here ↦ cond-true (eqb t.id id) 0 0 here | inr other ↦ cond-false (eqb t.id id) 0 0 other ]
  step true true false one two three = absurd (cc (ap (λ n. list_any (λ i. eqb i n) ended) (eqb-true t.id id two), one, three))
  step true false false one two three = cond-false (eqb t.id id) 0 rest two ∙ sym (cond-false (eqb t.id id) t.net rest two)
  step false true true one two three = absurd (cc (ap (λ n. list_any (λ i. eqb i n) ended) (eqb-true t.id id two), one, three))
  step false false true one two three = cond-false (eqb t.id id) t.net 0 two
  step false here false one two three = refl

held_by-freed : (ended : List ℕ) (tracks : List Track) (id : ℕ) (gone : Bool) → list_any (λ i. eqb i id) ended ≡ gone
    → held_by (freed ended tracks) id ≡ cond gone 0 (held_by tracks id)
held_by-freed ended [] id true is = refl
held_by-freed ended [] id false is = refl
held_by-freed ended (t ∷ tracks) id gone is =
    ap (λ n. cond (eqb (freed_among ended t).id id) (freed_among ended t).net n) (held_by-freed ended tracks id gone is)
    ∙ freed_step ended t id (held_by tracks id) gone is

pub freed-kept : (ended : List ℕ) (tracks : List Track) (id : ℕ) → (Contains ended id → ⊥) → held_by (freed ended tracks) id ≡ held_by tracks id
freed-kept ended tracks id none = elim (cases_Bool (list_any (λ i. eqb i id) ended)) [
  | inl is ↦ let found = any-cases (λ i. eqb i id) ended is in absurd (none (subst (λ i. Contains ended i) (eqb-true found.0 id found.2) found.1))
  | inr is ↦ held_by-freed ended tracks id false is
]

pub freed-gone : (ended : List ℕ) (tracks : List Track) (id : ℕ) → Contains ended id → held_by (freed ended tracks) id ≡ 0
freed-gone ended tracks id member = held_by-freed ended tracks id true (any-member (λ i. eqb i id) ended id member (eq-eqb id id refl))

-- from where and to where nets move
abbrev pub sources : List (ℕ × ℕ) → List ℕ
sources moves = map (λ (m : ℕ × ℕ). m.0) moves

abbrev pub targets : List (ℕ × ℕ) → List ℕ
targets moves = map (λ (m : ℕ × ℕ). m.1) moves

pub ids_one : (m : ℕ × ℕ) (tracks : List Track) → ids (move_one m tracks) ≡ ids tracks
ids_one m tracks = ids-hold m.1 (held_by tracks m.0) (hold m.0 0 tracks) ∙ ids-hold m.0 0 tracks

pub moved-other : (moves : List (ℕ × ℕ)) (tracks : List Track) (id : ℕ) → (Contains (sources moves) id → ⊥) → (Contains (targets moves) id → ⊥)
    → held_by (moved moves tracks) id ≡ held_by tracks id
moved-other [] tracks id from to = refl
moved-other (m ∷ moves) tracks id from to =
    moved-other moves (move_one m tracks) id (λ member. from (member-tail m.0 (sources moves) id member)) (λ member. to (member-tail m.1 (targets moves) id member))
    ∙ held_by-other (hold m.0 0 tracks) m.1 (held_by tracks m.0) id (λ same. to (subst (λ i. Contains (m.1 ∷ targets moves) i) same (member-head m.1 (targets moves))))
    ∙ held_by-other tracks m.0 0 id (λ same. from (subst (λ i. Contains (m.0 ∷ sources moves) i) same (member-head m.0 (sources moves))))

-- a free track to which no net moves stays free
moved-free : (moves : List (ℕ × ℕ)) (tracks : List Track) (id : ℕ) → Contains (ids tracks) id → held_by tracks id ≡ 0 → (Contains (targets moves) id → ⊥)
    → held_by (moved moves tracks) id ≡ 0
moved-free [] tracks id member free to = free
moved-free (m ∷ moves) tracks id member free to =
    moved-free moves (move_one m tracks) id (subst (λ l. Contains l id) (sym (ids_one m tracks)) member)
    (held_by-other (hold m.0 0 tracks) m.1 (held_by tracks m.0) id (λ same. to (subst (λ i. Contains (m.1 ∷ targets moves) i) same (member-head m.1 (targets moves))))
    ∙ elim (cases_eq m.0 id) [
      | inl same ↦ subst (λ i. held_by (hold i 0 tracks) id ≡ 0) (sym same) (held_by-given tracks id 0 member)
      | inr other ↦ held_by-other tracks m.0 0 id other ∙ free
    ])
    (λ there. to (member-tail m.1 (targets moves) id there))

pub moved-gone : (moves : List (ℕ × ℕ)) (tracks : List Track) (id : ℕ) → Contains (ids tracks) id → Contains (sources moves) id → (Contains (targets moves) id → ⊥)
    → held_by (moved moves tracks) id ≡ 0
moved-gone [] tracks id member from to = absurd (member-none id from)
moved-gone (m ∷ moves) tracks id member from to =
    let there : Contains (ids (move_one m tracks)) id = subst (λ l. Contains l id) (sym (ids_one m tracks)) member in
    elim (member-cases m.0 (sources moves) id from) [
      | inl same ↦ moved-free moves (move_one m tracks) id there
          (held_by-other (hold m.0 0 tracks) m.1 (held_by tracks m.0) id (λ equal. to (subst (λ i. Contains (m.1 ∷ targets moves) i) equal (member-head m.1 (targets moves))))
          ∙ subst (λ i. held_by (hold i 0 tracks) id ≡ 0) (sym same) (held_by-given tracks id 0 member))
          (λ later. to (member-tail m.1 (targets moves) id later))
      | inr later ↦ moved-gone moves (move_one m tracks) id there later (λ again. to (member-tail m.1 (targets moves) id again))
    ]

-- a net that moves holds the track to which it moves
pub moved-to : (moves : List (ℕ × ℕ)) (tracks : List Track) (old new : ℕ) → Apart (sources moves) → Apart (targets moves)
    → ((id : ℕ) → Contains (sources moves) id → Contains (targets moves) id → ⊥) → Contains (ids tracks) new → Contains moves (old, new)
    → held_by (moved moves tracks) new ≡ held_by tracks old
moved-to [] tracks old new once apart between there member = absurd (member-none (old, new) member)
moved-to (m ∷ moves) tracks old new once apart between there member =
    let stands : Contains (ids (move_one m tracks)) new = subst (λ l. Contains l new) (sym (ids_one m tracks)) there in
    elim (member-cases m moves (old, new) member) [
      | inl same ↦
          let from : m.0 ≡ old = ap (λ (p : ℕ × ℕ). p.0) same in
          let to : m.1 ≡ new = ap (λ (p : ℕ × ℕ). p.1) same in
          moved-other moves (move_one m tracks) new
          (λ source. between new (member-tail m.0 (sources moves) new source) (subst (λ i. Contains (m.1 ∷ targets moves) i) to (member-head m.1 (targets moves))))
          (λ again. apart.0 (subst (λ i. Contains (targets moves) i) (sym to) again))
          ∙ subst (λ i. held_by (hold i (held_by tracks m.0) (hold m.0 0 tracks)) new ≡ held_by tracks m.0) (sym to)
          (held_by-given (hold m.0 0 tracks) new (held_by tracks m.0) (subst (λ l. Contains l new) (sym (ids-hold m.0 0 tracks)) there))
          ∙ ap (held_by tracks) from
      | inr later ↦
          let source : Contains (sources moves) old = map-member (λ (p : ℕ × ℕ). p.0) moves (old, new) later in
          moved-to moves (move_one m tracks) old new once.1 apart.1
          (λ id from to. between id (member-tail m.0 (sources moves) id from) (member-tail m.1 (targets moves) id to)) stands later
          ∙ held_by-other (hold m.0 0 tracks) m.1 (held_by tracks m.0) old
          (λ equal. between old (member-tail m.0 (sources moves) old source) (subst (λ i. Contains (m.1 ∷ targets moves) i) equal (member-head m.1 (targets moves))))
          ∙ held_by-other tracks m.0 0 old (λ equal. once.0 (subst (λ i. Contains (sources moves) i) (sym equal) source))
    ]
