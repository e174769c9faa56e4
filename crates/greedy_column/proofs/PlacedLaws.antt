use Rattle.std.proofs.Common.{◌≡◌, ◌≢◌, ◌⊎◌, inl, inr, ◌<◌, ◌≤◌, ◌+◌, ◌-◌, ◌++◌, ◌^◌, drop, eqb, take, ℕ, zero, suc, List, [], ◌∷◌, length, get_or, refl, sym, subst, ap, ◌∙◌, arith, Contains, eq-eqb}
use Rattle.std.proofs.Math.ListN.{set, get_or-eq_default, get_or-map}
use Rattle.std.proofs.lemmas.Bool.{cases_eq, cond-true, cond-false, ne_eqb}
use Rattle.std.proofs.lemmas.List.{length-map, take-append-le, take_all}
use Rattle.std.proofs.lemmas.List.Elements.{Contains-get_or}
use Rattle.greedy_column.specs.declared.column.Track.{Track}
use Rattle.greedy_column.specs.Tracks.{ids, held_by, given, hold, line_of}
use Rattle.greedy_column.specs.declared.column.Made.{Made}
use Rattle.greedy_column.specs.Replay.{with_made}
use Rattle.greedy_column.specs.Lawful.{AreMadeFrom}
use Rattle.greedy_column.specs.Moving.{carried}
use Rattle.greedy_column.specs.Lines.{AreTracks, id_on}
use Rattle.greedy_column.specs.State.{AreNumbered}
use Rattle.greedy_column.proofs.IdLaws.{Apart, Apart-from, Apart-to, AreNumbered-with_made, ids-hold}
use Rattle.greedy_column.proofs.TableLaws.{held_by-at, length-ids, place_in}
use Rattle.std_laws.proofs.Members.{member-cases, member-head, member-none, member-same, member-tail}

-- an id that no track has gives no track to a net
pub hold-none : (tracks : List Track) (id net : ℕ) → (Contains (ids tracks) id → ⊥) → hold id net tracks ≡ tracks
hold-none [] id net none = refl
hold-none (t ∷ tracks) id net none =
    let other : t.id ≢ id = λ same. none (subst (λ i. Contains (t.id ∷ ids tracks) i) same (member-head t.id (ids tracks))) in
    let left : given id net t ≡ t = cond-false (eqb t.id id) (record { id = t.id; net = net }) t (ne_eqb t.id id other) in
    let later = hold-none tracks id net (λ member. none (member-tail t.id (ids tracks) id member)) in
    λ i. left i ∷ later i

-- where ids differ, the track of an id is given by a write at its place
pub hold-at : (tracks : List Track) (k net : ℕ) → Apart (ids tracks) → k < length tracks
    → hold (get_or (ids tracks) k 0) net tracks ≡ set tracks k (record { id = get_or (ids tracks) k 0; net = net })
hold-at [] k net apart within = absurd (omega arith)
hold-at (t ∷ tracks) zero net apart within =
    let first : given t.id net t ≡ record { id = t.id; net = net } =
    cond-true (eqb t.id t.id) (record { id = t.id; net = net }) t (eq-eqb t.id t.id refl) in
    let later = hold-none tracks t.id net apart.0 in
    λ i. first i ∷ later i
hold-at (t ∷ tracks) (suc k) net apart within =
    let id : ℕ = get_or (ids tracks) k 0 in
    let member : Contains (ids tracks) id = Contains-get_or (ids tracks) k 0 (omega (arith, length-ids tracks)) in
    let other : t.id ≢ id = λ same. apart.0 (subst (λ x. Contains (ids tracks) x) (sym same) member) in
    let first : given id net t ≡ t = cond-false (eqb t.id id) (record { id = t.id; net = net }) t (ne_eqb t.id id other) in
    let later = hold-at tracks k net apart.1 (omega arith) in
    λ i. first i ∷ later i

-- tracks stay such as a column has where their ids do
pub AreTracks-ids : (tracks others : List Track) → ids others ≡ ids tracks → AreTracks tracks → AreTracks others
AreTracks-ids tracks others same are = record {
  few = omega (arith, are.few, length-ids tracks, length-ids others, ap (λ (l : List ℕ). length l) same);
  positive = λ id member. are.positive id (subst (λ l. Contains l id) same member);
  distinct = Apart-to (ids others) (subst (λ l. Apart l) (sym same) (Apart-from (ids tracks) are.distinct));
}

pub AreTracks-hold : (id net : ℕ) (tracks : List Track) → AreTracks tracks → AreTracks (hold id net tracks)
AreTracks-hold id net tracks are = AreTracks-ids tracks (hold id net tracks) (ids-hold id net tracks) are

pub length-hold : (id net : ℕ) (tracks : List Track) → length (hold id net tracks) ≡ length tracks
length-hold id net tracks = length-map tracks (given id net)

-- a list that is written in place of as many items is the whole of them
pub written_whole : (n : ℕ) (after before : List Track) → length after ≡ n → take n (after ++ drop (length after) before) ≡ after
written_whole n after before long =
    take-append-le n after (drop (length after) before) (omega (arith, long)) ∙ take_all n after (omega (arith, long))

-- such tracks as numbered ones are, where they are few
pub AreTracks-numbered : (fresh : ℕ) (tracks : List Track) → AreNumbered fresh tracks → length tracks + 2 < 2 ^ 32 → AreTracks tracks
AreTracks-numbered fresh tracks numbered few = record { few = few; positive = numbered.positive; distinct = numbered.distinct }

-- an id that no track has is held by no net
pub held_by-none : (tracks : List Track) (id : ℕ) → (Contains (ids tracks) id → ⊥) → held_by tracks id ≡ 0
held_by-none [] id none = refl
held_by-none (t ∷ tracks) id none =
    let other : t.id ≢ id = λ same. none (subst (λ i. Contains (t.id ∷ ids tracks) i) same (member-head t.id (ids tracks))) in
    cond-false (eqb t.id id) t.net (held_by tracks id) (ne_eqb t.id id other)
    ∙ held_by-none tracks id (λ member. none (member-tail t.id (ids tracks) id member))

module _ (tracks : List Track) (are : AreTracks tracks) where
  apart : Apart (ids tracks)
  apart = Apart-from (ids tracks) are.distinct

  none_has_0 : Contains (ids tracks) 0 → ⊥
  none_has_0 member = let some = are.positive 0 member in omega (arith, some)

  past : (k : ℕ) → length tracks ≤ k → get_or (ids tracks) k 0 ≡ 0
  past k over = get_or-eq_default (ids tracks) 0 (omega (arith, length-ids tracks))

  -- past all tracks nothing is given to a net, and no net is told
  pub hold-past : (k net : ℕ) → length tracks ≤ k → tracks ≡ hold (get_or (ids tracks) k 0) net tracks
  hold-past k net over = sym (ap (λ id. hold id net tracks) (past k over) ∙ hold-none tracks 0 net none_has_0)

  pub held-past : (k : ℕ) → length tracks ≤ k → 0 ≡ held_by tracks (get_or (ids tracks) k 0)
  held-past k over = sym (ap (held_by tracks) (past k over) ∙ held_by-none tracks 0 none_has_0)

  -- at the place of a track a write gives it to a net, and its net is told
  pub hold-placed : (k net : ℕ) → k < length tracks
      → set tracks k (record { id = (get_or tracks k (record { id = 0; net = 0 })).id; net = net }) ≡ hold (get_or (ids tracks) k 0) net tracks
  hold-placed k net within =
      ap (λ id. set tracks k (record { id = id; net = net })) (sym (get_or-map (λ (t : Track). t.id) tracks k (record { id = 0; net = 0 })))
      ∙ sym (hold-at tracks k net apart within)

  pub held-placed : (k : ℕ) → k < length tracks → (get_or tracks k (record { id = 0; net = 0 })).net ≡ held_by tracks (get_or (ids tracks) k 0)
  held-placed k within = sym (held_by-at tracks k apart within ∙ get_or-map (λ (t : Track). t.net) tracks k (record { id = 0; net = 0 }))

-- the line of an id that no track has
pub line_of-none : (order : List ℕ) (id : ℕ) → (Contains order id → ⊥) → line_of order id ≡ length order + 1
line_of-none [] id none = refl
line_of-none (i ∷ order) id none =
    let other : i ≢ id = λ same. none (subst (λ j. Contains (i ∷ order) j) same (member-head i order)) in
    cond-false (eqb i id) 1 (suc (line_of order id)) (ne_eqb i id other)
    ∙ ap (λ n. suc n) (line_of-none order id (λ member. none (member-tail i order id member))) ∙ omega arith

member-or_none : (order : List ℕ) (id : ℕ) → Contains order id ⊎ (Contains order id → ⊥)
member-or_none [] id = inr (member-none id)
member-or_none (i ∷ order) id = elim (cases_eq i id) [
  | inl same ↦ inl (member-same i id order same)
  | inr other ↦ elim (member-or_none order id) [
    | inl later ↦ inl (member-tail i order id later)
    | inr none ↦ inr (λ member. elim (member-cases i order id member) [ inl same ↦ other same | inr later ↦ none later ])
  ]
]

-- an id gives its track by its line
pub hold-found : (tracks : List Track) (id net : ℕ) → AreTracks tracks → hold (id_on tracks (line_of (ids tracks) id)) net tracks ≡ hold id net tracks
hold-found tracks id net are =
    let at : (n : ℕ) → line_of (ids tracks) id ≡ n + 1 → id_on tracks (line_of (ids tracks) id) ≡ get_or (ids tracks) n 0 =
    λ n is. ap (λ k. get_or (ids tracks) k 0) (omega (arith, is)) in
    elim (member-or_none (ids tracks) id) [
      | inl member ↦
          let place = place_in (ids tracks) id (apart tracks are) member in
          ap (λ i. hold i net tracks) (at place.0 (place.3 ∙ omega arith) ∙ place.2)
      | inr none ↦
          ap (λ i. hold i net tracks) (at (length tracks) (line_of-none (ids tracks) id none ∙ omega (arith, length-ids tracks)))
          ∙ sym (hold-past tracks are (length tracks) net (omega arith)) ∙ sym (hold-none tracks id net none)
    ]

-- no track has the id 0, whose line is the upper edge
pub line_of-0 : (tracks : List Track) → AreTracks tracks → length tracks + 1 ≡ line_of (ids tracks) 0
line_of-0 tracks are = omega (arith, length-ids tracks, line_of-none (ids tracks) 0 (none_has_0 tracks are))

-- a net is carried from line to line by two tracks that are given
pub carried-from_gives : (tracks freed after : List Track) (net from to : ℕ) → freed ≡ hold (id_on tracks from) 0 tracks → net ≡ held_by tracks (id_on tracks from)
    → after ≡ hold (id_on freed to) net freed → after ≡ carried tracks tracks from to
carried-from_gives tracks freed after net from to first told second =
    let id : ℕ = id_on tracks from in
    second ∙ (λ i. hold (id_on (first i) to) (told i) (first i))
    ∙ ap (λ (l : List ℕ). hold (get_or l (to - 1) 0) (held_by tracks id) (hold id 0 tracks)) (ids-hold id 0 tracks)

-- with the tracks that a column adds
pub AreTracks-with_made : (fresh : ℕ) (before : List Track) (made : List Made) (all : List Track) → AreNumbered fresh before → AreMadeFrom fresh (length before) made
    → all ≡ with_made before made → length all + 2 < 2 ^ 32 → AreTracks all
AreTracks-with_made fresh before made all numbered placed is few =
    AreTracks-numbered (fresh + length made) all
    (subst (AreNumbered (fresh + length made)) (sym is) (AreNumbered-with_made fresh (length before) before made numbered placed)) few
