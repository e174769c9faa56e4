use Rattle.std.proofs.Common.{◌≡◌, inl, inr, ◌<◌, ◌+◌, ◌-◌, not, eqb, ℕ, zero, suc, List, [], ◌∷◌, Bool, true, false, cond, length, get_or, refl, sym, subst, arith, Contains, eq-eqb}
use Rattle.std.proofs.lemmas.List.Elements.{Contains-append_cases, Contains-append_left, Contains-append_right}
use Rattle.std.specs.List.{list_any}
use Rattle.greedy_column.specs.declared.column.Track.{Track}
use Rattle.greedy_column.specs.Tracks.{ids}
use Rattle.greedy_column.specs.Replay.{freed, freed_among}
use Rattle.greedy_column.specs.Lines.{net_on, lines_from, is_held, held_lines}
use Rattle.greedy_column.proofs.TableLaws.{nets}
use Rattle.greedy_column.proofs.GroupLaws.{HoldsLine}
use Rattle.std_laws.proofs.Members.{member-none, member-head, any-member, member-if}
use Rattle.std_laws.proofs.Tests.{positive-test, test-positive}

-- the place of a held track is listed
listed_at : (first k : ℕ) (tracks : List Track) → k < length tracks → 0 < get_or (nets tracks) k 0 → Contains (lines_from is_held first tracks) (first + k)
listed_at first k [] within some = absurd (omega arith)
listed_at first zero (t ∷ tracks) within some =
    let e : first ≡ first + zero = omega arith in
    subst (λ l. Contains (lines_from is_held first (t ∷ tracks)) l) e
    (Contains-append_left (cond (is_held t) (first ∷ []) []) (lines_from is_held (suc first) tracks) first
    (subst (λ b. Contains (cond b (first ∷ []) []) first) (sym (positive-test t.net some)) (member-head first [])))
listed_at first (suc k) (t ∷ tracks) within some =
    let e : suc first + k ≡ first + suc k = omega arith in
    subst (λ l. Contains (lines_from is_held first (t ∷ tracks)) l) e
    (Contains-append_right (cond (is_held t) (first ∷ []) []) (lines_from is_held (suc first) tracks) (suc first + k)
    (listed_at (suc first) k tracks (omega arith) some))

pub listed_held : (now : List Track) (net line : ℕ) → HoldsLine now net line → Contains (held_lines now) line
listed_held now net line holds =
    let e : 1 + (line - 1) ≡ line = omega (arith, holds.begins) in
    subst (λ l. Contains (held_lines now) l) e (listed_at 1 (line - 1) now (omega (arith, holds.begins, holds.within)) (omega (arith, holds.held, holds.some)))

-- a line that is listed once some tracks are freed: its track is held and none of these
pub record IsKeptAt (ended : List ℕ) (tracks : List Track) (first line : ℕ) : Type 0 where
  pub place : ℕ
  pub within : place < length tracks
  pub is : line ≡ first + place
  pub some : 0 < get_or (nets tracks) place 0
  pub kept : Contains ended (get_or (ids tracks) place 0) → ⊥

among_test : (ended : List ℕ) (t : Track) → not (eqb (freed_among ended t).net 0) ≡ true → (0 < t.net) × (Contains ended t.id → ⊥)
among_test ended t test = step (list_any (λ id. eqb id t.id) ended) refl test where
  step : (b : Bool) → list_any (λ id. eqb id t.id) ended ≡ b → not (eqb (cond b (record { id = t.id; net = 0 }) t).net 0) ≡ true → (0 < t.net) × (Contains ended t.id → ⊥)
  step true is test = absurd (cc test)
  step false is test = (test-positive t.net test, λ member. cc (is, any-member (λ id. eqb id t.id) ended t.id member (eq-eqb t.id t.id refl)))

pub kept_at : (ended : List ℕ) (first line : ℕ) (tracks : List Track) → Contains (lines_from is_held first (freed ended tracks)) line
    → IsKeptAt ended tracks first line
kept_at ended first line [] member = absurd (member-none line member)
kept_at ended first line (t ∷ tracks) member =
    elim (Contains-append_cases (cond (is_held (freed_among ended t)) (first ∷ []) []) (lines_from is_held (suc first) (freed ended tracks)) line member) [
      | inl here ↦
          let one = member-if (is_held (freed_among ended t)) first line here in
          let test = among_test ended t one.1 in
          record { place = 0; within = omega arith; is = omega (arith, one.0); some = test.0; kept = test.1 }
      | inr later ↦
          let rest = kept_at ended (suc first) line tracks later in
          record { place = suc rest.place; within = omega (arith, rest.within); is = omega (arith, rest.is); some = rest.some; kept = rest.kept }
    ]

-- a line that is listed is held
pub held_at : (first line : ℕ) (tracks : List Track) → Contains (lines_from is_held first tracks) line
    → (k : ℕ) × (k < length tracks) × (line ≡ first + k) × (0 < get_or (nets tracks) k 0)
held_at first line [] member = absurd (member-none line member)
held_at first line (t ∷ tracks) member =
    elim (Contains-append_cases (cond (is_held t) (first ∷ []) []) (lines_from is_held (suc first) tracks) line member) [
      | inl here ↦ let one = member-if (is_held t) first line here in (0, omega arith, omega (arith, one.0), test-positive t.net one.1)
      | inr later ↦ let rest = held_at (suc first) line tracks later in (suc rest.0, omega (arith, rest.1), omega (arith, rest.2), rest.3)
    ]

pub HoldsLine-listed : (now : List Track) (line : ℕ) → Contains (held_lines now) line → HoldsLine now (net_on now line) line
HoldsLine-listed now line member =
    let at = held_at 1 line now member in
    let place : line - 1 ≡ at.0 = omega (arith, at.2) in
    record {
      some = subst (λ k. 0 < get_or (nets now) k 0) (sym place) at.3;
      begins = omega (arith, at.2);
      within = omega (arith, at.1, at.2);
      held = refl;
    }
