use Rattle.std.proofs.Common.{◌≡◌, inl, inr, ◌<◌, ◌≤◌, ◌+◌, ◌-◌, ◌++◌, eqb, leb, ℕ, zero, suc, List, [], ◌∷◌, Bool, true, false, cond, Option, Some, None, length, drop, reverse, set, get_or, refl, sym, ap, ◌∙◌, arith, eq-eqb}
use Rattle.std.proofs.lemmas.Bool.{cases_eq, cond-true, cond-false, le-leb, ne_eqb}
use Rattle.std.proofs.lemmas.Bool.Decides.{nat_tests}
use Rattle.std.proofs.lemmas.List.{append-nil, get_or-set_same, get_or-set_other, reverse-append}
use Rattle.greedy_column.specs.declared.column.Track.{Track}
use Rattle.greedy_column.specs.declared.span.Span.{Span}
use Rattle.greedy_column.specs.Desk.{IsBelow, noted}
use Rattle.greedy_column.specs.Joining.{neighbours_from, next_line, pair_of}

-- a table tells by net, above a base, the lowest line of these tracks, the first of which stands on this line
abbrev pub Notes : ℕ → List ℕ → ℕ → List Track → Type 0
Notes base above line tracks = (net : ℕ) → 0 < net → noted base (get_or above net 0) ≡ next_line net line tracks

noted-some : (base line : ℕ) → 0 < line → noted base (base + line) ≡ Some line
noted-some base line some =
    cond-false (leb (base + line) base) None (Some (base + line - base)) (gt-leb base line some) ∙ ap (λ n. Some n) (omega arith) where
      gt-leb : (base line : ℕ) → 0 < line → leb (base + line) base ≡ false
      gt-leb base line some = grind (arith, nat_tests)

noted-none : (base entry : ℕ) → entry ≤ base → noted base entry ≡ None
noted-none base entry below = cond-true (leb entry base) None (Some (entry - base)) (le-leb entry base below)

-- no line is noted yet
pub Notes-none : (base : ℕ) (above : List ℕ) (line : ℕ) → IsBelow base above → Notes base above line []
Notes-none base above line below = λ net some. noted-none base (get_or above net 0) (below net)

-- no entry lies above a bound once one is written that does not
pub IsBelow-set : (bound : ℕ) (table : List ℕ) (n entry : ℕ) → n < length table → entry ≤ bound → IsBelow bound table → IsBelow bound (set table n entry)
IsBelow-set bound table n entry inside low below = λ net. elim (cases_eq n net) [
  | inl same ↦
      let is : get_or (set table n entry) net 0 ≡ entry = ap (λ k. get_or (set table n entry) k 0) (sym same) ∙ get_or-set_same table n entry 0 inside in
      omega (arith, is, low)
  | inr other ↦
      let is = get_or-set_other table n net entry 0 (λ same. other (sym same)) in
      omega (arith, is, below net)
]

-- a lower track is noted for its net
Notes-more : (base : ℕ) (above : List ℕ) (line : ℕ) (t : Track) (tracks : List Track) → 0 < line → t.net < length above → Notes base above (suc line) tracks
    → Notes base (set above t.net (base + line)) line (t ∷ tracks)
Notes-more base above line t tracks some inside notes = λ net held. elim (cases_eq t.net net) [
  | inl same ↦
      ap (λ n. noted base (get_or (set above t.net (base + line)) n 0)) (sym same) ∙ ap (noted base) (get_or-set_same above t.net (base + line) 0 inside)
      ∙ noted-some base line some ∙ sym (cond-true (eqb t.net net) (Some line) (next_line net (suc line) tracks) (eq-eqb t.net net same))
  | inr other ↦
      ap (noted base) (get_or-set_other above t.net net (base + line) 0 (λ same. other (sym same))) ∙ notes net held
      ∙ sym (cond-false (eqb t.net net) (Some line) (next_line net (suc line) tracks) (ne_eqb t.net net other))
]

-- one step down: the track below those from this line on
pub Notes-down : (base : ℕ) (all : List Track) (k line : ℕ) (t : Track) (above reached : List ℕ) → line ≡ k + 1 → drop k all ≡ t ∷ drop line all
    → ((net : ℕ) → get_or reached net 0 ≡ get_or above net 0) → t.net < length reached → Notes base above (line + 1) (drop line all)
    → Notes base (set reached t.net (base + line)) (k + 1) (drop k all)
Notes-down base all k line t above reached here cut alike inside notes =
    let next : line + 1 ≡ suc line = omega arith in
    let told : Notes base reached (suc line) (drop line all) = λ net held. ap (noted base) (alike net) ∙ notes net held ∙ ap (λ l. next_line net l (drop line all)) next in
    λ net held.
    Notes-more base reached line t (drop line all) (omega (arith, here)) inside told net held
    ∙ ap (next_line net line) (sym cut) ∙ ap (λ l. next_line net l (drop k all)) here

-- its pair with the next one above it is found
reverse-pair : (list : List Span) (net line : ℕ) (o : Option ℕ) → reverse (list ++ pair_of net line o) ≡ pair_of net line o ++ reverse list
reverse-pair list net line None = ap (λ (l : List Span). reverse l) (append-nil list)
reverse-pair list net line (Some above) = step (eqb net 0) where
  step : (b : Bool) → reverse (list ++ cond b [] (record { net = net; low = line; high = above } ∷ []))
      ≡ cond b [] (record { net = net; low = line; high = above } ∷ []) ++ reverse list
  step true = ap (λ (l : List Span). reverse l) (append-nil list)
  step false = reverse-append list (record { net = net; low = line; high = above } ∷ [])

pub neighbours-down : (all : List Track) (k line : ℕ) (t : Track) (list grown : List Span) (o : Option ℕ) → line ≡ k + 1 → drop k all ≡ t ∷ drop line all
    → o ≡ next_line t.net (line + 1) (drop line all) → grown ≡ list ++ pair_of t.net line o
    → reverse list ≡ neighbours_from (line + 1) (drop line all) → reverse grown ≡ neighbours_from (k + 1) (drop k all)
neighbours-down all k line t list grown o here cut found is so_far =
    let next : line + 1 ≡ suc line = omega arith in
    ap (λ (l : List Span). reverse l) is ∙ reverse-pair list t.net line o
    ∙ (λ i. pair_of t.net line (found i) ++ so_far i)
    ∙ ap (λ l. pair_of t.net line (next_line t.net l (drop line all)) ++ neighbours_from l (drop line all)) next
    ∙ ap (neighbours_from line) (sym cut) ∙ ap (λ l. neighbours_from l (drop k all)) here

-- an entry is cleared
pub set-none : (table : List ℕ) (n : ℕ) → get_or (set table n 0) n 0 ≡ 0
set-none [] n = refl
set-none (x ∷ table) zero = refl
set-none (x ∷ table) (suc n) = set-none table n
