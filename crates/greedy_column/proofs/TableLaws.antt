use Rattle.std.proofs.Common.{◌≡◌, ◌≢◌, ◌<◌, ◌≤◌, ◌-◌, eqb, ℕ, zero, suc, List, [], ◌∷◌, length, map, get_or, refl, sym, subst, ap, ◌∙◌, arith, Contains, eq-eqb}
use Rattle.std.proofs.lemmas.Bool.{cond-true, cond-false, ne_eqb}
use Rattle.std.proofs.lemmas.List.{get_or_default, length-map}
use Rattle.std.proofs.lemmas.List.Elements.{Contains-get_or}
use Rattle.greedy_column.specs.declared.column.Track.{Track}
use Rattle.greedy_column.specs.Tracks.{ids, held_by, line_of}
use Rattle.greedy_column.specs.Lines.{id_on, net_on}
use Rattle.greedy_column.proofs.IdLaws.{Apart}

-- the nets of tracks, from bottom to top
abbrev pub nets : List Track → List ℕ
nets tracks = map (λ (t : Track). t.net) tracks

pub length-ids : (tracks : List Track) → length (ids tracks) ≡ length tracks
length-ids tracks = length-map tracks (λ (t : Track). t.id)

-- ids that differ stand each on its own line
pub line_of-at : (order : List ℕ) (k : ℕ) → Apart order → k < length order → line_of order (get_or order k 0) ≡ suc k
line_of-at [] k apart within = absurd (omega arith)
line_of-at (i ∷ order) zero apart within = cond-true (eqb i i) 1 (suc (line_of order i)) (eq-eqb i i refl)
line_of-at (i ∷ order) (suc k) apart within =
    let member : Contains order (get_or order k 0) = Contains-get_or order k 0 (omega arith) in
    let other : i ≢ get_or order k 0 = λ same. apart.0 (subst (λ x. Contains order x) (sym same) member) in
    cond-false (eqb i (get_or order k 0)) 1 (suc (line_of order (get_or order k 0))) (ne_eqb i (get_or order k 0) other)
    ∙ ap (λ n. suc n) (line_of-at order k apart.1 (omega arith))

-- where a member stands
pub place_in : (order : List ℕ) (id : ℕ) → Apart order → Contains order id → (k : ℕ) × (k < length order) × (get_or order k 0 ≡ id) × (line_of order id ≡ suc k)
place_in order id apart member =
    let at : get_or order member.0 0 ≡ id = get_or_default order member.0 0 id member.1 ∙ member.2 in
    (member.0, member.1, at, sym (ap (line_of order) at) ∙ line_of-at order member.0 apart member.1)

-- the net of a track is told by its place
pub held_by-at : (tracks : List Track) (k : ℕ) → Apart (ids tracks) → k < length tracks → held_by tracks (get_or (ids tracks) k 0) ≡ get_or (nets tracks) k 0
held_by-at [] k apart within = absurd (omega arith)
held_by-at (t ∷ tracks) zero apart within = cond-true (eqb t.id t.id) t.net (held_by tracks t.id) (eq-eqb t.id t.id refl)
held_by-at (t ∷ tracks) (suc k) apart within =
    let member : Contains (ids tracks) (get_or (ids tracks) k 0) = Contains-get_or (ids tracks) k 0 (omega (arith, length-ids tracks)) in
    let other : t.id ≢ get_or (ids tracks) k 0 = λ same. apart.0 (subst (λ x. Contains (ids tracks) x) (sym same) member) in
    cond-false (eqb t.id (get_or (ids tracks) k 0)) t.net (held_by tracks (get_or (ids tracks) k 0)) (ne_eqb t.id (get_or (ids tracks) k 0) other)
    ∙ held_by-at tracks k apart.1 (omega arith)

-- a line, its id and its net
pub line_of-line : (tracks : List Track) (line : ℕ) → Apart (ids tracks) → 0 < line → line ≤ length tracks → line_of (ids tracks) (id_on tracks line) ≡ line
line_of-line tracks line apart some within =
    line_of-at (ids tracks) (line - 1) apart (omega (arith, length-ids tracks)) ∙ omega arith

pub held_by-line : (tracks : List Track) (line : ℕ) → Apart (ids tracks) → 0 < line → line ≤ length tracks → held_by tracks (id_on tracks line) ≡ net_on tracks line
held_by-line tracks line apart some within = held_by-at tracks (line - 1) apart (omega arith)

pub id_on-member : (tracks : List Track) (line : ℕ) → 0 < line → line ≤ length tracks → Contains (ids tracks) (id_on tracks line)
id_on-member tracks line some within = Contains-get_or (ids tracks) (line - 1) 0 (omega (arith, length-ids tracks))

-- lines that are of tracks have ids of their own
pub same_line : (now : List Track) (one other : ℕ) → Apart (ids now) → (0 < one) × (one ≤ length now) → (0 < other) × (other ≤ length now)
    → id_on now one ≡ id_on now other → one ≡ other
same_line now one other apart first second same =
    sym (line_of-line now one apart first.0 first.1) ∙ ap (line_of (ids now)) same ∙ line_of-line now other apart second.0 second.1
