use Rattle.std.proofs.Common.{◌≡◌, ◌⊎◌, inl, inr, ◌<◌, ◌≤◌, ◌+◌, ◌++◌, ◌||◌, eqb, ltb, ℕ, zero, suc, List, [], ◌∷◌, Bool, true, false, cond, length, get_or, refl, sym, subst, ap, ◌∙◌, arith, Contains, eq-eqb}
use Rattle.std.proofs.lemmas.Bool.{lt-ltb}
use Rattle.std.proofs.lemmas.List.Elements.{Contains-append_left, Contains-append_right}
use Rattle.greedy_column.specs.declared.column.Track.{Track}
use Rattle.greedy_column.specs.Tracks.{ids, held_by, line_of}
use Rattle.greedy_column.specs.Lawful.{IsOpen}
use Rattle.greedy_column.specs.Sparing.{HasNone, HasNoPair}
use Rattle.greedy_column.specs.Lines.{is_open, lines_from, open_lines, above_lowest}
use Rattle.greedy_column.proofs.IdLaws.{Apart}
use Rattle.greedy_column.proofs.LineLaws.{lines_from-each}
use Rattle.greedy_column.proofs.TableLaws.{nets, length-ids, held_by-at, place_in}
use Rattle.std_laws.proofs.Members.{member-none, member-head, member-cases, filter-member}

open_test : (n net : ℕ) → (n ≡ 0) ⊎ (n ≡ net) → (eqb n 0 || eqb n net) ≡ true
open_test n net (inl none) = ap (λ b. b || eqb n net) (eq-eqb n 0 none)
open_test n net (inr own) = or_right (eqb n 0) (eqb n net) (eq-eqb n net own) where
  or_right : (b c : Bool) → c ≡ true → (b || c) ≡ true
  or_right true c h = refl
  or_right false c h = h

-- a place that is open to a net is listed
listed_open : (net first k : ℕ) (tracks : List Track) → k < length tracks → (get_or (nets tracks) k 0 ≡ 0) ⊎ (get_or (nets tracks) k 0 ≡ net)
    → Contains (lines_from (is_open net) first tracks) (first + k)
listed_open net first k [] within at = absurd (omega arith)
listed_open net first zero (t ∷ tracks) within at =
    let e : first ≡ first + zero = omega arith in
    subst (λ l. Contains (lines_from (is_open net) first (t ∷ tracks)) l) e
    (Contains-append_left (cond (is_open net t) (first ∷ []) []) (lines_from (is_open net) (suc first) tracks) first
    (subst (λ b. Contains (cond b (first ∷ []) []) first) (sym (open_test t.net net at)) (member-head first [])))
listed_open net first (suc k) (t ∷ tracks) within at =
    let e : suc first + k ≡ first + suc k = omega arith in
    subst (λ l. Contains (lines_from (is_open net) first (t ∷ tracks)) l) e
    (Contains-append_right (cond (is_open net t) (first ∷ []) []) (lines_from (is_open net) (suc first) tracks) (suc first + k)
    (listed_open net (suc first) k tracks (omega arith) at))

-- a track that is open to a net stands on an open line
pub open_member : (before : List Track) (net id : ℕ) → Apart (ids before) → IsOpen before net id → Contains (open_lines net before) (line_of (ids before) id)
open_member before net id apart (inl free) =
    let at = place_in (ids before) id apart free.there in
    let k = at.0 in
    let inside : k < length before = omega (arith, at.1, length-ids before) in
    let none : get_or (nets before) k 0 ≡ 0 = sym (held_by-at before k apart inside) ∙ ap (held_by before) at.2 ∙ free.free in
    let e : 1 + k ≡ line_of (ids before) id = omega (arith, at.3) in
    subst (λ l. Contains (open_lines net before) l) e (listed_open net 1 k before inside (inl none))
open_member before net id apart (inr own) =
    let at = place_in (ids before) id apart own.there in
    let k = at.0 in
    let inside : k < length before = omega (arith, at.1, length-ids before) in
    let is : get_or (nets before) k 0 ≡ net = sym (held_by-at before k apart inside) ∙ ap (held_by before) at.2 ∙ own.held in
    let e : 1 + k ≡ line_of (ids before) id = omega (arith, at.3) in
    subst (λ l. Contains (open_lines net before) l) e (listed_open net 1 k before inside (inr is))

-- without an open line no track is open
pub HasNone-from : (before : List Track) (net : ℕ) → Apart (ids before) → open_lines net before ≡ [] → HasNone before net
HasNone-from before net apart none id is =
    member-none (line_of (ids before) id) (subst (λ l. Contains l (line_of (ids before) id)) none (open_member before net id apart is))

-- the first of some lines is the lowest
lowest_first : (passes : Track → Bool) (first line lowest : ℕ) (others : List ℕ) (tracks : List Track) → lines_from passes first tracks ≡ lowest ∷ others
    → Contains (lines_from passes first tracks) line → lowest ≤ line
lowest_first passes first line lowest others [] is member = absurd (member-none line member)
lowest_first passes first line lowest others (t ∷ tracks) is member =
    step (passes t) refl is member (λ again inside. lowest_first passes (suc first) line lowest others tracks again inside) where
      step : (b : Bool) → passes t ≡ b → (cond b (first ∷ []) [] ++ lines_from passes (suc first) tracks) ≡ lowest ∷ others
          → Contains (cond b (first ∷ []) [] ++ lines_from passes (suc first) tracks) line
          → (lines_from passes (suc first) tracks ≡ lowest ∷ others → Contains (lines_from passes (suc first) tracks) line → lowest ≤ line) → lowest ≤ line
      step true is_passing is member later =
          let same : first ≡ lowest = cc is in
          elim (member-cases first (lines_from passes (suc first) tracks) line member) [
            | inl here ↦ omega (arith, same, here)
            | inr above ↦ let found = lines_from-each passes (suc first) line tracks above in omega (arith, same, found.above)
          ]
      step false is_passing is member later = later is member

-- without a line that has a partner there is no pair
pub HasNoPair-from : (before : List Track) (top bottom : ℕ) → Apart (ids before)
    → above_lowest (open_lines bottom before) (open_lines top before) ≡ [] → HasNoPair before top bottom
HasNoPair-from before top bottom apart none upper lower above below order =
    step (open_lines bottom before) refl none (open_member before bottom lower apart below) where
      step : (lowers : List ℕ) → open_lines bottom before ≡ lowers → above_lowest lowers (open_lines top before) ≡ [] → Contains lowers (line_of (ids before) lower) → ⊥
      step [] is none member = member-none (line_of (ids before) lower) member
      step (lowest ∷ others) is none member =
          let least : lowest ≤ line_of (ids before) lower =
          lowest_first (is_open bottom) 1 (line_of (ids before) lower) lowest others before is (open_member before bottom lower apart below) in
          member-none (line_of (ids before) upper) (subst (λ l. Contains l (line_of (ids before) upper)) none
          (filter-member (λ l. ltb lowest l) (open_lines top before) (line_of (ids before) upper) (open_member before top upper apart above)
          (lt-ltb lowest (line_of (ids before) upper) (omega (arith, least, order)))))
