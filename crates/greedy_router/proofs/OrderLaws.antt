use Rattle.std.proofs.Common.{◌≡◌, ◌↔◌, inl, inr, ◌<◌, ◌≤◌, ◌+◌, eqb, ltb, leb, ℕ, suc, List, [], ◌∷◌, Bool, true, false, cond, length, filter, refl, sym, subst, ap, ◌∙◌, arith, Contains, eqb-true, eq-eqb}
use Rattle.std.proofs.lemmas.Bool.{cond-true, cond-false, ne_eqb, lt-ltb, le-ltb, leb-true, le-leb, lt-leb}
use Rattle.std.specs.List.{insert}
use Rattle.channel_model.specs.Pins.{Pins}
use Rattle.greedy_column.specs.declared.column.Track.{Track}
use Rattle.greedy_column.specs.declared.column.Made.{Made}
use Rattle.greedy_column.specs.declared.column.Column.{Column}
use Rattle.greedy_column.specs.Tracks.{ids, line_of}
use Rattle.greedy_column.specs.Replay.{with_made, entered, freed, after, replay_from}
use Rattle.greedy_column.specs.Lawful.{AreMadeFrom}
use Rattle.greedy_column.specs.State.{AreNumbered}
use Rattle.greedy_column.specs.Fair.{Fair, AllFair}
use Rattle.greedy_column.specs.Verticals.{Vertical, Port, floor, on, ceiling, line_at, Shares, IsOver}
use Rattle.greedy_column.proofs.IdLaws.{ids-insert, ids-entered, ids-freed, ids-moved, AreNumbered-ids, AreNumbered-with_made}
use Rattle.std_laws.proofs.Members.{member-none, member-head, member-tail, member-cases, filter-from}
use Rattle.std_laws.proofs.Inserted.{filter-insert}
use Rattle.std_laws.proofs.Tests.{leb-suc}

-- the ids below a number
abbrev pub known : ℕ → List ℕ → List ℕ
known bound order = filter (λ id. ltb id bound) order

known-with_made : (bound fresh count : ℕ) (tracks : List Track) (made : List Made) → bound ≤ fresh → AreMadeFrom fresh count made
    → known bound (ids (with_made tracks made)) ≡ known bound (ids tracks)
known-with_made bound fresh count tracks [] old placed = refl
known-with_made bound fresh count tracks (m ∷ made) old placed =
    known-with_made bound (suc fresh) (suc count) (insert tracks m.below (record { id = m.id; net = 0 })) made (omega (arith, old)) placed.2
    ∙ ap (known bound) (ids-insert (record { id = m.id; net = 0 }) tracks m.below)
    ∙ filter-insert (λ id. ltb id bound) m.id (ids tracks) m.below (le-ltb m.id bound (omega (arith, old, placed.0)))

-- the ids after a column are those once its pins have entered
pub ids-after : (pins : Pins) (column : ℕ) (before : List Track) (done : Column) → ids (after pins column done before) ≡ ids (entered pins column done before)
ids-after pins column before done =
    ids-moved done.moves (freed done.ended (entered pins column done before)) ∙ ids-freed done.ended (entered pins column done before)

pub ids-after_made : (pins : Pins) (column : ℕ) (before : List Track) (done : Column) → ids (after pins column done before) ≡ ids (with_made before done.made)
ids-after_made pins column before done = ids-after pins column before done ∙ ids-entered pins column before done

-- after a column the tracks are numbered
pub AreNumbered-after : (pins : Pins) (column fresh : ℕ) (before : List Track) (done : Column) → AreNumbered fresh before → Fair pins column fresh before done
    → AreNumbered (fresh + length done.made) (after pins column done before)
AreNumbered-after pins column fresh before done numbered fair =
    AreNumbered-ids (fresh + length done.made) (with_made before done.made) (after pins column done before) (ids-after_made pins column before done)
    (AreNumbered-with_made fresh (length before) before done.made numbered fair.lawful.made)

-- the order at any moment is the final one without the ids that came later
pub known-replay_from : (pins : Pins) (bound column fresh : ℕ) (before : List Track) (columns : List Column) → bound ≤ fresh
    → AllFair pins column fresh before columns → known bound (ids (replay_from pins column before columns)) ≡ known bound (ids before)
known-replay_from pins bound column fresh before [] old fair = refl
known-replay_from pins bound column fresh before (done ∷ columns) old fair =
    known-replay_from pins bound (suc column) (fresh + length done.made) (after pins column done before) columns (omega (arith, old)) fair.1
    ∙ ap (known bound) (ids-after_made pins column before done)
    ∙ known-with_made bound fresh (length before) before done.made old fair.0.lawful.made

known-all : (bound : ℕ) (order : List ℕ) → ((id : ℕ) → Contains order id → id < bound) → known bound order ≡ order
known-all bound [] below = refl
known-all bound (i ∷ order) below =
    cond-true (ltb i bound) (i ∷ known bound order) (known bound order) (lt-ltb i bound (below i (member-head i order)))
    ∙ ap (λ l. i ∷ l) (known-all bound order (λ id member. below id (member-tail i order id member)))

-- an order is that of an earlier moment: without the ids that came later
pub record IsEarlier (now final : List ℕ) : Type 0 where
  pub bound : ℕ
  pub is : known bound final ≡ now

pub IsEarlier-replay : (pins : Pins) (column fresh : ℕ) (before : List Track) (columns : List Column) → AreNumbered fresh before
    → AllFair pins column fresh before columns → IsEarlier (ids before) (ids (replay_from pins column before columns))
IsEarlier-replay pins column fresh before columns numbered fair = record {
  bound = fresh;
  is = known-replay_from pins fresh column fresh before columns (omega arith) fair ∙ known-all fresh (ids before) numbered.below;
}

-- the tracks once the pins of the next column have entered
pub IsEarlier-entered : (pins : Pins) (column fresh : ℕ) (before : List Track) (done : Column) (columns : List Column) → AreNumbered fresh before
    → AllFair pins column fresh before (done ∷ columns)
    → IsEarlier (ids (entered pins column done before)) (ids (replay_from pins column before (done ∷ columns)))
IsEarlier-entered pins column fresh before done columns numbered fair =
    subst (λ l. IsEarlier l (ids (replay_from pins (suc column) (after pins column done before) columns))) (ids-after pins column before done)
    (IsEarlier-replay pins (suc column) (fresh + length done.made) (after pins column done before) columns
    (AreNumbered-after pins column fresh before done numbered fair.0) fair.1)

pub line_of-positive : (order : List ℕ) (id : ℕ) → 0 < line_of order id
line_of-positive [] id = omega arith
line_of-positive (i ∷ order) id = step (eqb i id) where
  step : (b : Bool) → 0 < cond b 1 (suc (line_of order id))
  step true = omega arith
  step false = omega arith

pub line_of-within : (order : List ℕ) (id : ℕ) → Contains order id → line_of order id ≤ length order
line_of-within [] id member = absurd (member-none id member)
line_of-within (i ∷ order) id member = elim (member-cases i order id member) [
  | inl same ↦ subst (λ n. n ≤ suc (length order)) (sym (cond-true (eqb i id) 1 (suc (line_of order id)) (eq-eqb i id same))) (omega arith)
  | inr later ↦ step (eqb i id) (line_of-within order id later)
] where
  step : (b : Bool) → line_of order id ≤ length order → cond b 1 (suc (line_of order id)) ≤ suc (length order)
  step true less = omega arith
  step false less = omega arith

leb-front : (one other : Bool) (a b c d : ℕ) → 0 < a → 0 < c → leb a b ≡ leb c d
    → leb (cond one 1 (suc a)) (cond other 1 (suc b)) ≡ leb (cond one 1 (suc c)) (cond other 1 (suc d))
leb-front true true a b c d some too same = refl
leb-front true false a b c d some too same = le-leb 1 (suc b) (omega arith) ∙ sym (le-leb 1 (suc d) (omega arith))
leb-front false true a b c d some too same = lt-leb (suc a) 1 (omega (arith, some)) ∙ sym (lt-leb (suc c) 1 (omega (arith, too)))
leb-front false false a b c d some too same = leb-suc a b ∙ same ∙ sym (leb-suc c d)

pub line_of-absent : (order : List ℕ) (id : ℕ) → (Contains order id → ⊥) → line_of order id ≡ length order + 1
line_of-absent [] id none = refl
line_of-absent (i ∷ order) id none =
    let other : eqb i id ≡ false = ne_eqb i id (λ same. none (subst (λ n. Contains (n ∷ order) id) (sym same) (member-head id order))) in
    let rest = line_of-absent order id (λ member. none (member-tail i order id member)) in
    cond-false (eqb i id) 1 (suc (line_of order id)) other ∙ omega (arith, rest)

pub order-filter : (p : ℕ → Bool) (order : List ℕ) (a b : ℕ) → p a ≡ true → p b ≡ true
    → leb (line_of (filter p order) a) (line_of (filter p order) b) ≡ leb (line_of order a) (line_of order b)
order-filter p [] a b first second = refl
order-filter p (x ∷ order) a b first second = step (p x) (eqb x a) (eqb x b) refl refl refl (order-filter p order a b first second) where
  step : (keeps one other : Bool) → p x ≡ keeps → eqb x a ≡ one → eqb x b ≡ other
      → leb (line_of (filter p order) a) (line_of (filter p order) b) ≡ leb (line_of order a) (line_of order b)
      → leb (line_of (cond keeps (x ∷ filter p order) (filter p order)) a) (line_of (cond keeps (x ∷ filter p order) (filter p order)) b)
      ≡ leb (cond one 1 (suc (line_of order a))) (cond other 1 (suc (line_of order b)))
  step true one other keep is too rest =
      (λ i. leb (cond (is i) 1 (suc (line_of (filter p order) a))) (cond (too i) 1 (suc (line_of (filter p order) b))))
      ∙ leb-front one other (line_of (filter p order) a) (line_of (filter p order) b) (line_of order a) (line_of order b)
      (line_of-positive (filter p order) a) (line_of-positive order a) rest
  step false true other keep is too rest = absurd (cc (ap p (eqb-true x a is), keep, first))
  step false false true keep is too rest = absurd (cc (ap p (eqb-true x b too), keep, second))
  step false false false keep is too rest = rest ∙ sym (leb-suc (line_of order a) (line_of order b))

-- a port is an edge, or on a track that stands
abbrev pub IsPort : List ℕ → Port → Type 0
IsPort order floor = Unit {0}
IsPort order (on id) = Contains order id
IsPort order ceiling = Unit {0}

-- both ends of a vertical
pub record IsDrawn (order : List ℕ) (v : Vertical) : Type 0 where
  pub low : IsPort order v.low
  pub high : IsPort order v.high

-- an order and an earlier one
module _ (now final : List ℕ) (earlier : IsEarlier now final) where
  is_known : (id : ℕ) → Contains now id → Contains final id × (ltb id earlier.bound ≡ true)
  is_known id member =
      filter-from (λ i. ltb i earlier.bound) final id (subst (λ l. Contains l id) (sym earlier.is) member)

  pub earlier-in : (id : ℕ) → Contains now id → Contains final id
  earlier-in id member = (is_known id member).0

  -- two tracks lie in the same order at both
  pub earlier-leb : (a b : ℕ) → Contains now a → Contains now b → leb (line_of now a) (line_of now b) ≡ leb (line_of final a) (line_of final b)
  earlier-leb a b first second =
      subst (λ l. leb (line_of l a) (line_of l b) ≡ leb (line_of final a) (line_of final b)) earlier.is
      (order-filter (λ i. ltb i earlier.bound) final a b (is_known a first).1 (is_known b second).1)

  pub earlier-order : (a b : ℕ) → Contains now a → Contains now b → (line_of now a ≤ line_of now b) ↔ (line_of final a ≤ line_of final b)
  earlier-order a b first second =
      let same = earlier-leb a b first second in (
        (λ less. leb-true (line_of final a) (line_of final b) (sym same ∙ le-leb (line_of now a) (line_of now b) less)),
        (λ less. leb-true (line_of now a) (line_of now b) (same ∙ le-leb (line_of final a) (line_of final b) less)),
      )

  pub ports-order : (p q : Port) → IsPort now p → IsPort now q → (line_at now p ≤ line_at now q) ↔ (line_at final p ≤ line_at final q)
  ports-order floor q first second = ((λ less. omega arith), (λ less. omega arith))
  ports-order (on a) floor first second = (
    (λ less. absurd (omega (arith, less, line_of-positive now a))),
    (λ less. absurd (omega (arith, less, line_of-positive final a))),
  )
  ports-order (on a) (on b) first second = earlier-order a b first second
  ports-order (on a) ceiling first second = (
    (λ less. let inside = line_of-within final a (earlier-in a first) in omega (arith, inside)),
    (λ less. let inside = line_of-within now a first in omega (arith, inside)),
  )
  ports-order ceiling floor first second = ((λ less. absurd (omega (arith, less))), (λ less. absurd (omega (arith, less))))
  ports-order ceiling (on b) first second = (
    (λ less. let inside = line_of-within now b second in absurd (omega (arith, less, inside))),
    (λ less. let inside = line_of-within final b (earlier-in b second) in absurd (omega (arith, less, inside))),
  )
  ports-order ceiling ceiling first second = ((λ less. omega arith), (λ less. omega arith))

  -- verticals that share a point in the end shared one in their column
  pub shared_before : (v w : Vertical) → IsDrawn now v → IsDrawn now w → Shares final v w → Shares now v w
  shared_before v w first second shares =
      ((ports-order v.low w.high first.low second.high).1 shares.0, (ports-order w.low v.high second.low first.high).1 shares.1)

  -- a vertical covers the line of a track in the end just where it did in its column
  pub over_before : (v : Vertical) (id : ℕ) → IsDrawn now v → Contains now id → IsOver now v (line_of now id) ↔ IsOver final v (line_of final id)
  over_before v id drawn member =
      let low = ports-order v.low (on id) drawn.low member in
      let high = ports-order (on id) v.high member drawn.high in (
        (λ over. (low.0 over.0, high.0 over.1)),
        (λ over. (low.1 over.0, high.1 over.1)),
      )
