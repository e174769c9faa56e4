use Rattle.std.proofs.Common.{◌≡◌, ◌<◌, ◌≤◌, ◌+◌, not, eqb, ℕ, List, [], ◌∷◌, Bool, true, false, cond, refl, sym, subst, ap, ◌∙◌, arith, Contains, eqb-true, eq-eqb, inl, inr}
use Rattle.std.proofs.lemmas.Bool.{ne_eqb, cases_eq, cond-true, cond-false}
use Rattle.std.proofs.lemmas.List.Sums.{sum_by-cons}
use Rattle.std.specs.List.{list_any}
use Rattle.greedy_column.specs.declared.column.Track.{Track}
use Rattle.greedy_column.specs.Tracks.{ids, held_by, hold}
use Rattle.greedy_column.specs.Replay.{with_nets, freed_among, freed, moved}
use Rattle.greedy_column.specs.Neighbours.{Holds}
use Rattle.greedy_column.proofs.IdLaws.{Apart, ids-hold}
use Rattle.greedy_column.specs.Held.{held_count, IsHeld}
use Rattle.std_laws.proofs.Members.{member-head, member-tail, any-member}

-- how much a track counts: 1 where it is held
abbrev pub held_one : ℕ → ℕ
held_one net = cond (not (eqb net 0)) 1 0

pub held_count-cons : (t : Track) (tracks : List Track) → held_count (t ∷ tracks) ≡ held_one t.net + held_count tracks
held_count-cons t tracks = sum_by-cons (λ (u : Track). cond (not (eqb u.net 0)) 1 0) t tracks

held_one-some : (net : ℕ) → 0 < net → held_one net ≡ 1
held_one-some net some = ap (λ b. cond (not b) 1 0) (ne_eqb net 0 (λ none. omega (arith, none, some)))

held-counts : (tracks : List Track) (id : ℕ) → 0 < held_by tracks id → 0 < held_count tracks
held-counts [] id some = absurd (omega (arith, some))
held-counts (t ∷ tracks) id some = step (eqb t.id id) refl some (λ h. held-counts tracks id h) where
  step : (b : Bool) → eqb t.id id ≡ b → 0 < cond b t.net (held_by tracks id) → (0 < held_by tracks id → 0 < held_count tracks) → 0 < held_count (t ∷ tracks)
  step true is some later = omega (arith, held_count-cons t tracks, held_one-some t.net some)
  step false is some later = let rest = later some in omega (arith, held_count-cons t tracks, rest)

-- a track is held where a net holds it
pub IsHeld-from : (tracks : List Track) (net id : ℕ) → Holds tracks net id → IsHeld tracks
IsHeld-from tracks net id held = let some = held.net_is in held-counts tracks id (omega (arith, some, held.held))

-- a net holds some track where one is held
pub Holds-some : (tracks : List Track) → Apart (ids tracks) → IsHeld tracks → (net : ℕ) × ((id : ℕ) × Holds tracks net id)
Holds-some [] apart held = absurd (omega (arith, held))
Holds-some (t ∷ tracks) apart held = elim (cases_eq t.net 0) [
  | inr some ↦ (
    t.net,
    (
      t.id,
      record { net_is = omega arith; there = member-head t.id (ids tracks); held = cond-true (eqb t.id t.id) t.net (held_by tracks t.id) (eq-eqb t.id t.id refl) },
    ),
  )
  | inl none ↦
      let one : held_one t.net ≡ 0 = ap held_one none in
      let (net, (id, own)) = Holds-some tracks apart.1 (omega (arith, held, held_count-cons t tracks, one)) in (
        net,
        (
          id,
          record {
            net_is = own.net_is;
            there = member-tail t.id (ids tracks) id own.there;
            held = cond-false (eqb t.id id) t.net (held_by tracks id) (ne_eqb t.id id (λ same. apart.0 (subst (λ i. Contains (ids tracks) i) (sym same) own.there))) ∙ own.held;
          },
        ),
      )
]

-- a track that is not there is not given
hold-absent : (tracks : List Track) (id net : ℕ) → (Contains (ids tracks) id → ⊥) → hold id net tracks ≡ tracks
hold-absent [] id net none = refl
hold-absent (t ∷ tracks) id net none =
    (λ i. cond-false (eqb t.id id) (record { id = t.id; net = net }) t
    (ne_eqb t.id id (λ same. none (subst (λ j. Contains (t.id ∷ ids tracks) j) same (member-head t.id (ids tracks))))) i ∷ hold id net tracks)
    ∙ ap (λ l. t ∷ l) (hold-absent tracks id net (λ member. none (member-tail t.id (ids tracks) id member)))

-- how many tracks are held once one is given, and once one is freed
given-count : (tracks : List Track) (id net : ℕ) → Apart (ids tracks) → held_count (hold id net tracks) ≤ held_count tracks + held_one net
given-count [] id net apart = omega arith
given-count (t ∷ tracks) id net apart = step (eqb t.id id) refl (given-count tracks id net apart.1) where
  step : (b : Bool) → eqb t.id id ≡ b → held_count (hold id net tracks) ≤ held_count tracks + held_one net
      → held_count (cond b (record { id = t.id; net = net }) t ∷ hold id net tracks) ≤ held_count (t ∷ tracks) + held_one net
  step true is rest =
      let same = ap held_count (hold-absent tracks id net (λ member. apart.0 (subst (λ i. Contains (ids tracks) i) (sym (eqb-true t.id id is)) member))) in
      omega (arith, held_count-cons (record { id = t.id; net = net }) (hold id net tracks), held_count-cons t tracks, same)
  step false is rest = omega (arith, held_count-cons t (hold id net tracks), held_count-cons t tracks, rest)

freed-count : (tracks : List Track) (id : ℕ) → Apart (ids tracks) → held_count (hold id 0 tracks) + held_one (held_by tracks id) ≡ held_count tracks
freed-count [] id apart = refl
freed-count (t ∷ tracks) id apart = step (eqb t.id id) refl (freed-count tracks id apart.1) where
  step : (b : Bool) → eqb t.id id ≡ b → held_count (hold id 0 tracks) + held_one (held_by tracks id) ≡ held_count tracks
      → held_count (cond b (record { id = t.id; net = 0 }) t ∷ hold id 0 tracks) + held_one (cond b t.net (held_by tracks id)) ≡ held_count (t ∷ tracks)
  step true is rest =
      let same = ap held_count (hold-absent tracks id 0 (λ member. apart.0 (subst (λ i. Contains (ids tracks) i) (sym (eqb-true t.id id is)) member))) in
      omega (arith, held_count-cons (record { id = t.id; net = 0 }) (hold id 0 tracks), held_count-cons t tracks, same)
  step false is rest = omega (arith, held_count-cons t (hold id 0 tracks), held_count-cons t tracks, rest)

-- the tracks after one move
abbrev pub move_one : (ℕ × ℕ) → List Track → List Track
move_one m tracks = hold m.1 (held_by tracks m.0) (hold m.0 0 tracks)

-- no more tracks are held after moves
pub moved-count : (moves : List (ℕ × ℕ)) (tracks : List Track) → Apart (ids tracks) → held_count (moved moves tracks) ≤ held_count tracks
moved-count [] tracks apart = omega arith
moved-count (m ∷ moves) tracks apart =
    let first : Apart (ids (hold m.0 0 tracks)) = subst (λ l. Apart l) (sym (ids-hold m.0 0 tracks)) apart in
    let second : Apart (ids (move_one m tracks)) = subst (λ l. Apart l) (sym (ids-hold m.1 (held_by tracks m.0) (hold m.0 0 tracks))) first in
    let rest = moved-count moves (move_one m tracks) second in
    let one = given-count (hold m.0 0 tracks) m.1 (held_by tracks m.0) first in
    let none = freed-count tracks m.0 apart in
    omega (arith, rest, one, none)

-- fewer are held once one of them ends
among-count : (ended : List ℕ) (t : Track) → held_one (freed_among ended t).net ≤ held_one t.net
among-count ended t = step (list_any (λ id. eqb id t.id) ended) where
  step : (b : Bool) → held_one (cond b (record { id = t.id; net = 0 }) t).net ≤ held_one t.net
  step true = omega arith
  step false = omega arith

freed-most : (ended : List ℕ) (tracks : List Track) → held_count (freed ended tracks) ≤ held_count tracks
freed-most ended [] = omega arith
freed-most ended (t ∷ tracks) =
    omega (arith, freed-most ended tracks, among-count ended t, held_count-cons t tracks, held_count-cons (freed_among ended t) (freed ended tracks))

among-gone : (ended : List ℕ) (t : Track) → Contains ended t.id → held_one (freed_among ended t).net ≡ 0
among-gone ended t member = step (list_any (λ id. eqb id t.id) ended) (any-member (λ id. eqb id t.id) ended t.id member (eq-eqb t.id t.id refl)) where
  step : (b : Bool) → b ≡ true → held_one (cond b (record { id = t.id; net = 0 }) t).net ≡ 0
  step true is = refl
  step false is = absurd (cc is)

pub freed-fewer : (ended : List ℕ) (tracks : List Track) (id : ℕ) → Contains ended id → 0 < held_by tracks id → held_count (freed ended tracks) < held_count tracks
freed-fewer ended [] id member some = absurd (omega (arith, some))
freed-fewer ended (t ∷ tracks) id member some = step (eqb t.id id) refl some (λ h. freed-fewer ended tracks id member h) where
  step : (b : Bool) → eqb t.id id ≡ b → 0 < cond b t.net (held_by tracks id) → (0 < held_by tracks id → held_count (freed ended tracks) < held_count tracks)
      → held_count (freed ended (t ∷ tracks)) < held_count (t ∷ tracks)
  step true is some later =
      let gone = among-gone ended t (subst (λ i. Contains ended i) (sym (eqb-true t.id id is)) member) in
      omega (arith, freed-most ended tracks, gone, held_one-some t.net some, held_count-cons t tracks, held_count-cons (freed_among ended t) (freed ended tracks))
  step false is some later =
      let rest = later some in
      omega (arith, rest, among-count ended t, held_count-cons t tracks, held_count-cons (freed_among ended t) (freed ended tracks))

-- pins of no net make no track held
pub entered-count : (tracks : List Track) (top_id top bottom_id bottom : ℕ) → Apart (ids tracks) → top ≡ 0 → bottom ≡ 0
    → held_count (with_nets top top_id bottom bottom_id tracks) ≤ held_count tracks
entered-count tracks top_id top bottom_id bottom apart none too =
    let first = given-count tracks bottom_id bottom apart in
    let second = given-count (hold bottom_id bottom tracks) top_id top (subst (λ l. Apart l) (sym (ids-hold bottom_id bottom tracks)) apart) in
    omega (arith, first, second, ap held_one none, ap held_one too)
