use Rattle.std.proofs.Common.{◌≡◌, ◌⊎◌, inl, inr, ◌<◌, eqb, ℕ, zero, suc, List, [], ◌∷◌, Bool, true, false, cond, length, get_or, set, refl, sym, subst, ◌∙◌, arith, Contains, eqb-true, eq-eqb}
use Rattle.std.proofs.lemmas.Bool.{cases_eq, cases_lt, cases_Bool, cond-false, eqb-false, ne_eqb}
use Rattle.std.proofs.lemmas.List.{get_or-set_same, get_or-set_other, get_or_past, length-set}
use Rattle.std.specs.List.{insert, list_any}
use Rattle.greedy_column.specs.declared.column.Track.{Track}
use Rattle.greedy_column.specs.declared.column.Made.{Made}
use Rattle.greedy_column.specs.Tracks.{ids, held_by, hold}
use Rattle.greedy_column.specs.Replay.{with_made, freed, moved}
use Rattle.greedy_column.specs.Lawful.{AreMadeFrom}
use Rattle.greedy_column.specs.State.{AreNumbered}
use Rattle.greedy_column.proofs.HeldCountLaws.{move_one}
use Rattle.greedy_column.proofs.HeldLaws.{held_by-given, held_by-other, held_by-with_made}
use Rattle.greedy_column.proofs.IdLaws.{ids-hold}
use Rattle.greedy_router.specs.Turns.{since_entered, freed_by, moved_by, since_moved, TellsNets, TellsSince}
use Rattle.greedy_router.proofs.MovedLaws.{freed-kept, freed-gone, ids_one}
use Rattle.std_laws.proofs.Members.{member-none, member-head, member-tail, member-cases, any-cases, any-member}

-- a table has entries for all ids of an order
abbrev pub Fits : List ℕ → List ℕ → Type 0
Fits order table = (id : ℕ) → Contains order id → id < length table

pub fits-set : (order table : List ℕ) (i x : ℕ) → Fits order table → Fits order (set table i x)
fits-set order table i x fits id member = let less = fits id member in omega (arith, less, length-set table i x)

pub freed_by-long : (ended table : List ℕ) → length (freed_by ended table) ≡ length table
freed_by-long [] table = refl
freed_by-long (e ∷ ended) table = freed_by-long ended (set table e 0) ∙ length-set table e 0

pub moved_by-long : (moves : List (ℕ × ℕ)) (table : List ℕ) → length (moved_by moves table) ≡ length table
moved_by-long [] table = refl
moved_by-long (m ∷ moves) table =
    moved_by-long moves (set (set table m.0 0) m.1 (get_or table m.0 0)) ∙ length-set (set table m.0 0) m.1 (get_or table m.0 0) ∙ length-set table m.0 0

pub since_moved-long : (column : ℕ) (moves : List (ℕ × ℕ)) (table : List ℕ) → length (since_moved column moves table) ≡ length table
since_moved-long column [] table = refl
since_moved-long column (m ∷ moves) table = since_moved-long column moves (set table m.1 column) ∙ length-set table m.1 column

pub since_entered-long : (column id : ℕ) (nets table : List ℕ) → length (since_entered column nets id table) ≡ length table
since_entered-long column id nets table = step (eqb (get_or nets id 0) 0) where
  step : (b : Bool) → length (cond b (set table id column) table) ≡ length table
  step true = length-set table id column
  step false = refl

-- a net is given a track, by a write
pub told-hold : (order : List ℕ) (tracks : List Track) (table : List ℕ) (id net : ℕ) → Fits order table → (Contains order id → Contains (ids tracks) id)
    → TellsNets order tracks table → TellsNets order (hold id net tracks) (set table id net)
told-hold order tracks table id net fits there told other member = elim (cases_eq id other) [
  | inl same ↦
      let here : Contains order id = subst (λ n. Contains order n) (sym same) member in
      subst (λ n. get_or (set table id net) n 0 ≡ held_by (hold id net tracks) n) same
      (get_or-set_same table id net 0 (fits id here) ∙ sym (held_by-given tracks id net (there here)))
  | inr apart ↦ get_or-set_other table id other net 0 (λ same. apart (sym same)) ∙ told other member ∙ sym (held_by-other tracks id net other apart)
]

-- 0 is written, or stands
set-none : (table : List ℕ) (e id : ℕ) → (e ≡ id) ⊎ (get_or table id 0 ≡ 0) → get_or (set table e 0) id 0 ≡ 0
set-none table e id which = elim (cases_eq e id) [
  | inl same ↦ elim (cases_lt e (length table)) [
    | inl inside ↦ subst (λ n. get_or (set table e 0) n 0 ≡ 0) same (get_or-set_same table e 0 0 inside)
    | inr past ↦ get_or_past (set table e 0) id 0 (omega (arith, past, same, length-set table e 0))
  ]
  | inr apart ↦ get_or-set_other table e id 0 0 (λ same. apart (sym same)) ∙ elim which [ inl same ↦ absurd (apart same) | inr none ↦ none ]
]

freed_by-gone : (ended table : List ℕ) (id : ℕ) → Contains ended id ⊎ (get_or table id 0 ≡ 0) → get_or (freed_by ended table) id 0 ≡ 0
freed_by-gone [] table id (inl member) = absurd (member-none id member)
freed_by-gone [] table id (inr none) = none
freed_by-gone (e ∷ ended) table id (inl member) = elim (member-cases e ended id member) [
  | inl same ↦ freed_by-gone ended (set table e 0) id (inr (set-none table e id (inl same)))
  | inr later ↦ freed_by-gone ended (set table e 0) id (inl later)
]
freed_by-gone (e ∷ ended) table id (inr none) = freed_by-gone ended (set table e 0) id (inr (set-none table e id (inr none)))

freed_by-kept : (ended table : List ℕ) (id : ℕ) → (Contains ended id → ⊥) → get_or (freed_by ended table) id 0 ≡ get_or table id 0
freed_by-kept [] table id none = refl
freed_by-kept (e ∷ ended) table id none =
    freed_by-kept ended (set table e 0) id (λ member. none (member-tail e ended id member))
    ∙ get_or-set_other table e id 0 0 (λ same. none (subst (λ n. Contains (e ∷ ended) n) (sym same) (member-head e ended)))

ends-or_not : (ended : List ℕ) (id : ℕ) → Contains ended id ⊎ (Contains ended id → ⊥)
ends-or_not ended id = elim (cases_Bool (list_any (λ i. eqb i id) ended)) [
  | inl is ↦ let found = any-cases (λ i. eqb i id) ended is in inl (subst (λ i. Contains ended i) (eqb-true found.0 id found.2) found.1)
  | inr is ↦ inr (λ member. cc (any-member (λ i. eqb i id) ended id member (eq-eqb id id refl), is))
]

-- tracks are freed, by writes of 0
pub told-freed : (order : List ℕ) (tracks : List Track) (ended table : List ℕ) → TellsNets order tracks table
    → TellsNets order (freed ended tracks) (freed_by ended table)
told-freed order tracks ended table told id member = elim (ends-or_not ended id) [
  | inl gone ↦ freed_by-gone ended table id (inl gone) ∙ sym (freed-gone ended tracks id gone)
  | inr none ↦ freed_by-kept ended table id none ∙ told id member ∙ sym (freed-kept ended tracks id none)
]

-- the tracks of moves stand
abbrev pub AreMovedIn : List Track → List (ℕ × ℕ) → Type 0
AreMovedIn tracks moves = (m : ℕ × ℕ) → Contains moves m → Contains (ids tracks) m.0 × Contains (ids tracks) m.1

moved_in-more : (tracks : List Track) (m : ℕ × ℕ) (moves : List (ℕ × ℕ)) → AreMovedIn tracks (m ∷ moves) → AreMovedIn (move_one m tracks) moves
moved_in-more tracks m moves there n member =
    let both = there n (member-tail m moves n member) in
    (subst (λ l. Contains l n.0) (sym (ids_one m tracks)) both.0, subst (λ l. Contains l n.1) (sym (ids_one m tracks)) both.1)

-- nets are carried, by two writes for each
pub told-moved : (order : List ℕ) (moves : List (ℕ × ℕ)) (tracks : List Track) (table : List ℕ) → Fits order table
    → ((id : ℕ) → Contains (ids tracks) id → Contains order id) → AreMovedIn tracks moves → TellsNets order tracks table
    → TellsNets order (moved moves tracks) (moved_by moves table)
told-moved order [] tracks table fits within there told = told
told-moved order (m ∷ moves) tracks table fits within there told =
    let both = there m (member-head m moves) in
    let net : get_or table m.0 0 ≡ held_by tracks m.0 = told m.0 (within m.0 both.0) in
    let gone : TellsNets order (hold m.0 0 tracks) (set table m.0 0) = told-hold order tracks table m.0 0 fits (λ here. both.0) told in
    let one : TellsNets order (hold m.1 (held_by tracks m.0) (hold m.0 0 tracks)) (set (set table m.0 0) m.1 (get_or table m.0 0)) =
    subst (λ n. TellsNets order (hold m.1 n (hold m.0 0 tracks)) (set (set table m.0 0) m.1 (get_or table m.0 0))) net
    (told-hold order (hold m.0 0 tracks) (set table m.0 0) m.1 (get_or table m.0 0) (fits-set order table m.0 0 fits)
    (λ here. subst (λ l. Contains l m.1) (sym (ids-hold m.0 0 tracks)) both.1) gone) in
    told-moved order moves (move_one m tracks) (set (set table m.0 0) m.1 (get_or table m.0 0))
    (fits-set order (set table m.0 0) m.1 (get_or table m.0 0) (fits-set order table m.0 0 fits))
    (λ id member. within id (subst (λ l. Contains l id) (ids_one m tracks) member)) (moved_in-more tracks m moves there) one

-- no net holds a track that is lacking, or is made
held_by-absent : (tracks : List Track) (id : ℕ) → (Contains (ids tracks) id → ⊥) → held_by tracks id ≡ 0
held_by-absent [] id none = refl
held_by-absent (t ∷ tracks) id none =
    cond-false (eqb t.id id) t.net (held_by tracks id) (ne_eqb t.id id (λ same. none (subst (λ n. Contains (t.id ∷ ids tracks) n) same (member-head t.id (ids tracks)))))
    ∙ held_by-absent tracks id (λ member. none (member-tail t.id (ids tracks) id member))

held_by-blank : (tracks : List Track) (k new id : ℕ) → held_by tracks id ≡ 0 → held_by (insert tracks k (record { id = new; net = 0 })) id ≡ 0
held_by-blank tracks zero new id none = step (eqb new id) where
  step : (b : Bool) → cond {A = ℕ} b 0 (held_by tracks id) ≡ 0
  step true = refl
  step false = none
held_by-blank [] (suc k) new id none = step (eqb new id) where
  step : (b : Bool) → cond {A = ℕ} b 0 0 ≡ 0
  step true = refl
  step false = refl
held_by-blank (t ∷ tracks) (suc k) new id none = step (eqb t.id id) none (held_by-blank tracks k new id) where
  step : (b : Bool) → cond b t.net (held_by tracks id) ≡ 0
      → (held_by tracks id ≡ 0 → held_by (insert tracks k (record { id = new; net = 0 })) id ≡ 0)
      → cond b t.net (held_by (insert tracks k (record { id = new; net = 0 })) id) ≡ 0
  step true is later = is
  step false is later = later is

held_by-none_made : (tracks : List Track) (made : List Made) (id : ℕ) → held_by tracks id ≡ 0 → held_by (with_made tracks made) id ≡ 0
held_by-none_made tracks [] id none = none
held_by-none_made tracks (m ∷ made) id none =
    held_by-none_made (insert tracks m.below (record { id = m.id; net = 0 })) made id (held_by-blank tracks m.below m.id id none)

pub held_by-made : (fresh count : ℕ) (tracks : List Track) (made : List Made) (id : ℕ) → AreNumbered fresh tracks → AreMadeFrom fresh count made
    → held_by (with_made tracks made) id ≡ held_by tracks id
held_by-made fresh count tracks made id numbered placed = elim (cases_lt id fresh) [
  | inl old ↦ held_by-with_made fresh count tracks made id placed old
  | inr new ↦
      let none : held_by tracks id ≡ 0 = held_by-absent tracks id (λ member. let less = numbered.below id member in omega (arith, less, new)) in
      held_by-none_made tracks made id none ∙ sym none
]

-- since when a track is held that a net enters
since-at : (column : ℕ) (nets table : List ℕ) (id : ℕ) (since : ℕ → ℕ) (b : Bool) → id < length table → eqb (get_or nets id 0) 0 ≡ b
    → (get_or nets id 0 ≡ 0 → since id ≡ column) → (0 < get_or nets id 0 → get_or table id 0 ≡ since id)
    → get_or (cond b (set table id column) table) id 0 ≡ since id
since-at column nets table id since true within is free known = get_or-set_same table id column 0 within ∙ sym (free (eqb-true (get_or nets id 0) 0 is))
since-at column nets table id since false within is free known = let other = eqb-false (get_or nets id 0) 0 is in known (omega (arith, other))

since-else : (column : ℕ) (table : List ℕ) (id other : ℕ) (b : Bool) → (other ≡ id → ⊥) → get_or (cond b (set table id column) table) other 0 ≡ get_or table other 0
since-else column table id other true apart = get_or-set_other table id other column 0 apart
since-else column table id other false apart = refl

pub since-hold : (order : List ℕ) (tracks : List Track) (nets table : List ℕ) (column id net : ℕ) (since : ℕ → ℕ) → Fits order table
    → TellsNets order tracks nets → (Contains order id → held_by tracks id ≡ 0 → since id ≡ column)
    → TellsSince order tracks since table → TellsSince order (hold id net tracks) since (since_entered column nets id table)
since-hold order tracks nets table column id net since fits told free known other member held = elim (cases_eq id other) [
  | inl same ↦
      let here : Contains order id = subst (λ n. Contains order n) (sym same) member in
      let is = told id here in
      subst (λ n. get_or (since_entered column nets id table) n 0 ≡ since n) same
      (since-at column nets table id since (eqb (get_or nets id 0) 0) (fits id here) refl (λ none. free here (sym is ∙ none))
      (λ some. known id here (omega (arith, some, is))))
  | inr apart ↦
      since-else column table id other (eqb (get_or nets id 0) 0) (λ same. apart (sym same))
      ∙ known other member (subst (λ n. 0 < n) (held_by-other tracks id net other apart) held)
]

-- those that go on are held as before
pub since-freed : (order : List ℕ) (tracks : List Track) (ended table : List ℕ) (since : ℕ → ℕ) → TellsSince order tracks since table
    → TellsSince order (freed ended tracks) since table
since-freed order tracks ended table since known id member held = elim (ends-or_not ended id) [
  | inl gone ↦ absurd (omega (arith, held, freed-gone ended tracks id gone))
  | inr none ↦ known id member (subst (λ n. 0 < n) (freed-kept ended tracks id none) held)
]

-- those to which nets move are held from this column on
pub since-moved : (order : List ℕ) (moves : List (ℕ × ℕ)) (tracks : List Track) (table : List ℕ) (column : ℕ) (since : ℕ → ℕ) → Fits order table
    → AreMovedIn tracks moves → ((m : ℕ × ℕ) → Contains moves m → since m.1 ≡ column) → TellsSince order tracks since table
    → TellsSince order (moved moves tracks) since (since_moved column moves table)
since-moved order [] tracks table column since fits there free known = known
since-moved order (m ∷ moves) tracks table column since fits there free known =
    since-moved order moves (move_one m tracks) (set table m.1 column) column since (fits-set order table m.1 column fits) (moved_in-more tracks m moves there)
    (λ n member. free n (member-tail m moves n member)) one where
      one : TellsSince order (move_one m tracks) since (set table m.1 column)
      one id member held = elim (cases_eq m.1 id) [
        | inl same ↦
            let here : Contains order m.1 = subst (λ n. Contains order n) (sym same) member in
            subst (λ n. get_or (set table m.1 column) n 0 ≡ since n) same (get_or-set_same table m.1 column 0 (fits m.1 here) ∙ sym (free m (member-head m moves)))
        | inr apart ↦
            let still : 0 < held_by (hold m.0 0 tracks) id = subst (λ n. 0 < n) (held_by-other (hold m.0 0 tracks) m.1 (held_by tracks m.0) id apart) held in
            get_or-set_other table m.1 id column 0 (λ same. apart (sym same))
            ∙ known id member (elim (cases_eq m.0 id) [
              | inl same ↦
                  let none : held_by (hold m.0 0 tracks) id ≡ 0 =
                  subst (λ n. held_by (hold m.0 0 tracks) n ≡ 0) same (held_by-given tracks m.0 0 (there m (member-head m moves)).0) in
                  absurd (omega (arith, still, none))
              | inr other ↦ subst (λ n. 0 < n) (held_by-other tracks m.0 0 id other) still
            ])
      ]
