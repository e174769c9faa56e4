use Rattle.std.proofs.Common.{◌≡◌, inl, inr, ◌<◌, ◌+◌, eqb, ℕ, zero, suc, List, [], ◌∷◌, Bool, true, false, cond, length, refl, sym, subst, ap, ◌∙◌, arith, Contains, add-zero}
use Rattle.std.specs.List.{IsDistinct, insert, list_any}
use Rattle.channel_model.specs.Pins.{Pins}
use Rattle.greedy_column.specs.declared.column.Track.{Track}
use Rattle.greedy_column.specs.declared.column.Made.{Made}
use Rattle.greedy_column.specs.declared.column.Column.{Column}
use Rattle.greedy_column.specs.Tracks.{ids, held_by, given, hold}
use Rattle.greedy_column.specs.Replay.{top_pin, bottom_pin, with_made, freed_among, freed, moved, entered}
use Rattle.greedy_column.specs.Lawful.{AreMadeFrom}
use Rattle.greedy_column.specs.State.{AreNumbered}
use Rattle.std_laws.proofs.Members.{member-head, member-tail, all_other, other_all}
use Rattle.std_laws.proofs.Inserted.{insert-cases}

-- no number stands twice
abbrev pub Apart : List ℕ → Type 0
Apart [] = Unit {0}
Apart (x ∷ xs) = (Contains xs x → ⊥) × Apart xs

pub Apart-from : (xs : List ℕ) → IsDistinct (λ i j. eqb i j) xs → Apart xs
unfolding IsDistinct
Apart-from [] distinct = tt
Apart-from (x ∷ xs) distinct = (all_other x xs distinct.0, Apart-from xs distinct.1)

pub Apart-to : (xs : List ℕ) → Apart xs → IsDistinct (λ i j. eqb i j) xs
unfolding IsDistinct
Apart-to [] apart = tt
Apart-to (x ∷ xs) apart = (other_all x xs apart.0, Apart-to xs apart.1)

pub ids-insert : (t : Track) (tracks : List Track) (k : ℕ) → ids (insert tracks k t) ≡ insert (ids tracks) k t.id
ids-insert t tracks zero = refl
ids-insert t [] (suc k) = refl
ids-insert t (u ∷ tracks) (suc k) = ap (λ l. u.id ∷ l) (ids-insert t tracks k)

pub Apart-insert : (x : ℕ) (xs : List ℕ) (k : ℕ) → (Contains xs x → ⊥) → Apart xs → Apart (insert xs k x)
Apart-insert x xs zero none apart = (none, apart)
Apart-insert x [] (suc k) none apart = (none, apart)
Apart-insert x (z ∷ zs) (suc k) none apart = (
  (λ member. elim (insert-cases x z zs k member) [
    | inl same ↦ none (subst (λ w. Contains (z ∷ zs) w) (sym same) (member-head z zs))
    | inr old ↦ apart.0 old
  ]),
  Apart-insert x zs k (λ member. none (member-tail z zs x member)) apart.1,
)

-- tracks are numbered where their ids are
AreNumbered-from : (fresh : ℕ) (tracks : List Track) (list : List ℕ) → ids tracks ≡ list → 0 < fresh → ((id : ℕ) → Contains list id → 0 < id)
    → ((id : ℕ) → Contains list id → id < fresh) → Apart list → AreNumbered fresh tracks
AreNumbered-from fresh tracks list same some positive below apart = record {
  some = some;
  positive = λ id member. positive id (subst (λ l. Contains l id) same member);
  below = λ id member. below id (subst (λ l. Contains l id) same member);
  distinct = Apart-to (ids tracks) (subst (λ l. Apart l) (sym same) apart);
}

-- with a new track above or below which some lie, the ids are numbered
AreNumbered-insert : (fresh k : ℕ) (tracks : List Track) → AreNumbered fresh tracks → AreNumbered (suc fresh) (insert tracks k (record { id = fresh; net = 0 }))
AreNumbered-insert fresh k tracks numbered =
    let old : Contains (ids tracks) fresh → ⊥ = λ member. let less = numbered.below fresh member in omega (arith, less) in
    AreNumbered-from (suc fresh) (insert tracks k (record { id = fresh; net = 0 })) (insert (ids tracks) k fresh)
    (ids-insert (record { id = fresh; net = 0 }) tracks k) (omega arith)
    (λ id member. elim (insert-cases fresh id (ids tracks) k member) [ inl same ↦ omega (arith, numbered.some, same) | inr before ↦ numbered.positive id before ])
    (λ id member. elim (insert-cases fresh id (ids tracks) k member) [
      | inl same ↦ omega (arith, same)
      | inr before ↦ let less = numbered.below id before in omega (arith, less)
    ])
    (Apart-insert fresh (ids tracks) k old (Apart-from (ids tracks) numbered.distinct))

pub AreNumbered-with_made : (fresh count : ℕ) (tracks : List Track) (made : List Made) → AreNumbered fresh tracks → AreMadeFrom fresh count made
    → AreNumbered (fresh + length made) (with_made tracks made)
AreNumbered-with_made fresh count tracks [] numbered placed = rw add-zero numbered
AreNumbered-with_made fresh count tracks (m ∷ made) numbered placed =
    let first : AreNumbered (suc fresh) (insert tracks m.below (record { id = m.id; net = 0 })) =
    subst (λ i. AreNumbered (suc fresh) (insert tracks m.below (record { id = i; net = 0 }))) (sym placed.0) (AreNumbered-insert fresh m.below tracks numbered) in
    let e : fresh + suc (length made) ≡ suc fresh + length made = omega arith in
    rw e (AreNumbered-with_made (suc fresh) (suc count) (insert tracks m.below (record { id = m.id; net = 0 })) made first placed.2)

-- the ids stay when tracks are given, freed or left
id_given : (id net : ℕ) (t : Track) → (given id net t).id ≡ t.id
id_given id net t = step (eqb t.id id) where
  step : (b : Bool) → (cond b (record { id = t.id; net = net }) t).id ≡ t.id
  step true = refl
  step false = refl

pub ids-hold : (id net : ℕ) (tracks : List Track) → ids (hold id net tracks) ≡ ids tracks
ids-hold id net [] = refl
ids-hold id net (t ∷ tracks) = λ i. id_given id net t i ∷ ids-hold id net tracks i

-- the ids once the pins have entered
pub ids-entered : (pins : Pins) (column : ℕ) (before : List Track) (done : Column) → ids (entered pins column done before) ≡ ids (with_made before done.made)
ids-entered pins column before done =
    ids-hold done.top (top_pin pins column) (hold done.bottom (bottom_pin pins column) (with_made before done.made))
    ∙ ids-hold done.bottom (bottom_pin pins column) (with_made before done.made)

id_freed : (ended : List ℕ) (t : Track) → (freed_among ended t).id ≡ t.id
id_freed ended t = step (list_any (λ id. eqb id t.id) ended) where
  step : (b : Bool) → (cond b (record { id = t.id; net = 0 }) t).id ≡ t.id
  step true = refl
  step false = refl

pub ids-freed : (ended : List ℕ) (tracks : List Track) → ids (freed ended tracks) ≡ ids tracks
ids-freed ended [] = refl
ids-freed ended (t ∷ tracks) = λ i. id_freed ended t i ∷ ids-freed ended tracks i

pub ids-moved : (moves : List (ℕ × ℕ)) (tracks : List Track) → ids (moved moves tracks) ≡ ids tracks
ids-moved [] tracks = refl
ids-moved (m ∷ moves) tracks =
    ids-moved moves (hold m.1 (held_by tracks m.0) (hold m.0 0 tracks)) ∙ ids-hold m.1 (held_by tracks m.0) (hold m.0 0 tracks) ∙ ids-hold m.0 0 tracks

pub AreNumbered-ids : (fresh : ℕ) (tracks others : List Track) → ids others ≡ ids tracks → AreNumbered fresh tracks → AreNumbered fresh others
AreNumbered-ids fresh tracks others same numbered =
    AreNumbered-from fresh others (ids tracks) same numbered.some numbered.positive numbered.below (Apart-from (ids tracks) numbered.distinct)
