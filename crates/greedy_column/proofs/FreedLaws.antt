use Rattle.std.proofs.Common.{◌≡◌, inl, inr, ◌||◌, ◌↔◌, ◌-◌, eqb, get_or, map, subst, Contains, eqb-true, ℕ, List, [], ◌∷◌, Bool, true, false, cond, refl, sym, ap, ◌∙◌, eq-eqb}
use Rattle.std.proofs.lemmas.Bool.{cases_eq, cond-true, cond-false, ne_eqb}
use Rattle.std.specs.List.{list_any}
use Rattle.greedy_column.specs.declared.column.Track.{Track}
use Rattle.greedy_column.specs.Tracks.{given, hold, ids}
use Rattle.greedy_column.specs.Lines.{id_on}
use Rattle.greedy_column.specs.Follows.{AreEnded}
use Rattle.std_laws.proofs.Members.{any-cases, any-member}
use Rattle.greedy_column.specs.Replay.{freed, freed_among}

one_way : (b : Bool) (t : Track) → cond b t t ≡ t
one_way true t = refl
one_way false t = refl

-- a track is freed among some ids as by the first of them and then among the others
among-more : (id : ℕ) (later : List ℕ) (t : Track) → freed_among (id ∷ later) t ≡ freed_among later (given id 0 t)
among-more id later t =
    let gone : Track = record { id = t.id; net = 0 } in
    let among : Bool = list_any (λ other. eqb other t.id) later in
    elim (cases_eq t.id id) [
      | inl same ↦
          ap (λ b. cond (b || among) gone t) (eq-eqb id t.id (sym same)) ∙ sym (one_way among gone)
          ∙ ap (freed_among later) (sym (cond-true (eqb t.id id) gone t (eq-eqb t.id id same)))
      | inr other ↦
          ap (λ b. cond (b || among) gone t) (ne_eqb id t.id (λ same. other (sym same)))
          ∙ ap (freed_among later) (sym (cond-false (eqb t.id id) gone t (ne_eqb t.id id other)))
    ]

-- tracks are freed one after another
pub freed-more : (id : ℕ) (later : List ℕ) (tracks : List Track) → freed (id ∷ later) tracks ≡ freed later (hold id 0 tracks)
freed-more id later [] = refl
freed-more id later (t ∷ tracks) = λ i. among-more id later t i ∷ freed-more id later tracks i

-- the same tracks are freed by the same ids, however these are told
any_same : (ended others : List ℕ) (x : ℕ) → (Contains ended x → Contains others x) → list_any (λ id. eqb id x) ended ≡ true → list_any (λ id. eqb id x) others ≡ true
any_same ended others x there any =
    let found = any-cases (λ id. eqb id x) ended any in
    let same : found.0 ≡ x = eqb-true found.0 x found.2 in
    any-member (λ id. eqb id x) others x (there (subst (λ y. Contains ended y) same found.1)) (eq-eqb x x refl)

same_tests : (a b : Bool) → (a ≡ true → b ≡ true) → (b ≡ true → a ≡ true) → a ≡ b
same_tests true b there back = sym (there refl)
same_tests false true there back = back refl
same_tests false false there back = refl

pub freed-same : (ended others : List ℕ) (tracks : List Track) → ((id : ℕ) → Contains ended id ↔ Contains others id) → freed ended tracks ≡ freed others tracks
freed-same ended others [] same = refl
freed-same ended others (t ∷ tracks) same =
    let tests : list_any (λ id. eqb id t.id) ended ≡ list_any (λ id. eqb id t.id) others =
    same_tests _ _ (any_same ended others t.id (same t.id).0) (any_same others ended t.id (same t.id).1) in
    λ i. cond (tests i) (record { id = t.id; net = 0 }) t ∷ freed-same ended others tracks same i

-- one more line is freed
pub freed-line : (first tracks given : List Track) (line : ℕ) (later : List ℕ) → ids tracks ≡ ids first → given ≡ hold (id_on tracks line) 0 tracks
    → freed (map (id_on first) later) given ≡ freed (map (id_on first) (line ∷ later)) tracks
freed-line first tracks given line later same is =
    ap (freed (map (id_on first) later)) (is ∙ ap (λ (l : List ℕ). hold (get_or l (line - 1) 0) 0 tracks) same)
    ∙ sym (freed-more (id_on first line) (map (id_on first) later) tracks)

-- the tracks on lines that end are those that are told to end
pub freed-told : (tracks : List Track) (ending ended : List ℕ) → AreEnded tracks ending ended → freed (map (id_on tracks) ending) tracks ≡ freed ended tracks
freed-told tracks ending ended told = sym (freed-same ended (map (id_on tracks) ending) tracks told.members)
