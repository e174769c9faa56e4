use Rattle.std.proofs.Common.{◌≡◌, inl, inr, ◌<◌, ◌≤◌, ◌+◌, ◌++◌, ◌||◌, ◌&&◌, not, eqb, leb, ltb, ℕ, suc, List, [], ◌∷◌, Bool, true, false, cond, Option, Some, None, length, filter, get_or, refl, sym, ap, subst, ◌∙◌, arith, eqb-true, eq-eqb, Contains}
use Rattle.std.proofs.lemmas.Bool.{and_parts, cases_eq, ne_eqb}
use Rattle.std.proofs.lemmas.Bool.Decides.{nat_tests}
use Rattle.std.proofs.lemmas.List.Folds.{list_any-append}
use Rattle.std.specs.List.{list_any}
use Rattle.choose_core.specs.declared.candidate.Next.{Next}
use Rattle.greedy_column.specs.declared.column.Track.{Track}
use Rattle.greedy_column.specs.declared.span.Span.{Span}
use Rattle.greedy_column.specs.Lines.{held_lines, lines_from, net_on, own_lines}
use Rattle.greedy_column.specs.Joining.{next_line, pair_of, neighbours_from, neighbours}
use Rattle.greedy_column.specs.Moving.{TellSplit, behind_on, has_other_end, is_end_of, is_foreign, is_held_beside, rank_on}
use Rattle.greedy_column.specs.Replay.{freed, freed_among}
use Rattle.greedy_column.proofs.AloneLaws.{own_at}
use Rattle.greedy_column.proofs.HeldLineLaws.{held_at}
use Rattle.greedy_column.proofs.IdLaws.{Apart}
use Rattle.greedy_column.proofs.PartLaws.{Apart-lines_from}
use Rattle.greedy_column.proofs.StretchLaws.{filter_one}
use Rattle.greedy_column.proofs.TableLaws.{nets}
use Rattle.std_laws.proofs.Counts.{filter-short}
use Rattle.std_laws.proofs.Members.{any-member, member-cases, member-head, member-none, member-tail}
use Rattle.std_laws.proofs.Searches.{any-filter}

-- the lines of a net's tracks, the first track standing on this line
abbrev own_from : ℕ → ℕ → List Track → List ℕ
own_from net line tracks = lines_from (λ (t : Track). eqb t.net net) line tracks

-- the first of some lines, where there is one
abbrev first_of : List ℕ → Option ℕ
first_of [] = None
first_of (line ∷ lines) = Some line

-- the next track of a net stands on the first of its lines
next_first : (net line : ℕ) (tracks : List Track) → next_line net line tracks ≡ first_of (own_from net line tracks)
next_first net line [] = refl
next_first net line (t ∷ tracks) = step (eqb t.net net) (next_first net (suc line) tracks) where
  step : (b : Bool) → next_line net (suc line) tracks ≡ first_of (own_from net (suc line) tracks)
      → cond b (Some line) (next_line net (suc line) tracks) ≡ first_of (cond b (line ∷ []) [] ++ own_from net (suc line) tracks)
  step true later = refl
  step false later = later

several : (n : ℕ) → true ≡ ltb 1 (suc (suc n))
several n = grind (arith, nat_tests)

module _ (q : ℕ → Bool) (net : ℕ) (some : 0 < net) where
  -- one of a line and the next one passes a test, where there is a next one
  abbrev passes_here : ℕ → Option ℕ → Bool
  passes_here line None = false
  passes_here line (Some above) = q line || q above

  pair_at : (other line : ℕ) (o : Option ℕ) → list_any (is_end_of net q) (pair_of other line o) ≡ cond (eqb other net) (passes_here line o) false
  pair_at other line None = none (eqb other net) where
    none : (b : Bool) → false ≡ cond b false false
    none true = refl
    none false = refl
  pair_at other line (Some above) = step (eqb other net) refl where
    last : (b : Bool) → (b || false) ≡ b
    last true = refl
    last false = refl

    step : (b : Bool) → eqb other net ≡ b
        → list_any (is_end_of net q) (cond (eqb other 0) [] (record { net = other; low = line; high = above } ∷ [])) ≡ cond b (q line || q above) false
    step true is =
        ap (λ c. list_any (is_end_of net q) (cond c [] (record { net = other; low = line; high = above } ∷ [])))
        (ne_eqb other 0 (λ none. omega (arith, none, eqb-true other net is, some)))
        ∙ ap (λ c. (c && (q line || q above)) || false) is ∙ last (q line || q above)
    step false is = either (eqb other 0) where
      either : (c : Bool) → list_any (is_end_of net q) (cond c [] (record { net = other; low = line; high = above } ∷ [])) ≡ false
      either true = refl
      either false = ap (λ d. (d && (q line || q above)) || false) is

  joined : (a b c e f : Bool) → true ≡ e → true ≡ f → ((a || b) || (e && (b || c))) ≡ (f && (a || (b || c)))
  joined a b c e f first second =
      (λ i. (a || b) || (sym first i && (b || c))) ∙ once a b ∙ (λ i. second i && (a || (b || c))) where
        once : (a b : Bool) → ((a || b) || (b || c)) ≡ (a || (b || c))
        once true b = refl
        once false true = refl
        once false false = refl

  -- one more line of the net below the others
  one_more : (line : ℕ) (own : List ℕ) → (passes_here line (first_of own) || (ltb 1 (length own) && list_any q own)) ≡ (ltb 1 (suc (length own)) && (q line || list_any q own))
  one_more line [] = refl
  one_more line (above ∷ []) = step (q line) (q above) where
    step : (a b : Bool) → ((a || b) || false) ≡ (a || (b || false))
    step true b = refl
    step false b = refl
  one_more line (above ∷ (next ∷ own)) = joined (q line) (q above) (list_any q (next ∷ own)) _ _ (several (length own)) (several (suc (length own)))

  -- the ends of a net's pairs are its lines, where it has several
  any_ends : (line : ℕ) (tracks : List Track)
      → list_any (is_end_of net q) (neighbours_from line tracks) ≡ (ltb 1 (length (own_from net line tracks)) && list_any q (own_from net line tracks))
  any_ends line [] = refl
  any_ends line (t ∷ tracks) =
      list_any-append (is_end_of net q) (pair_of t.net line (next_line t.net (suc line) tracks)) (neighbours_from (suc line) tracks)
      ∙ (λ i. pair_at t.net line (next_line t.net (suc line) tracks) i || any_ends (suc line) tracks i) ∙ step (eqb t.net net) refl where
        step : (b : Bool) → eqb t.net net ≡ b
            → (cond b (passes_here line (next_line t.net (suc line) tracks)) false || (ltb 1 (length (own_from net (suc line) tracks)) && list_any q (own_from net (suc line) tracks)))
            ≡ (ltb 1 (length (cond b (line ∷ []) [] ++ own_from net (suc line) tracks)) && list_any q (cond b (line ∷ []) [] ++ own_from net (suc line) tracks))
        step true is =
            ap (λ o. passes_here line o || (ltb 1 (length (own_from net (suc line) tracks)) && list_any q (own_from net (suc line) tracks)))
            (ap (λ n. next_line n (suc line) tracks) (eqb-true t.net net is) ∙ next_first net (suc line) tracks)
            ∙ one_more line (own_from net (suc line) tracks)
        step false is = refl

-- of a net's lines those are left, once some tracks are freed, on which it still stands
own_left : (ended : List ℕ) (net : ℕ) (net_at : ℕ → ℕ) (line : ℕ) (tracks : List Track) → 0 < net
    → ((j : ℕ) → j < length tracks → net_at (line + j) ≡ get_or (nets (freed ended tracks)) j 0)
    → own_from net line (freed ended tracks) ≡ filter (λ l. eqb (net_at l) net) (own_from net line tracks)
own_left ended net net_at line [] some told = refl
own_left ended net net_at line (t ∷ tracks) some told =
    let here : (freed_among ended t).net ≡ net_at line = sym (ap net_at (omega arith) ∙ told 0 (omega arith)) in
    let later = own_left ended net net_at (suc line) tracks some (λ j within. ap net_at (omega arith) ∙ told (suc j) (omega (arith, within))) in
    (λ i. cond (was (list_any (λ id. eqb id t.id) ended) i) (line ∷ []) [] ++ later i)
    ∙ ap (λ n. cond (eqb t.net net && eqb n net) (line ∷ []) [] ++ filter (λ l. eqb (net_at l) net) (own_from net (suc line) tracks)) here
    ∙ filter_one (λ l. eqb (net_at l) net) line (own_from net (suc line) tracks) (eqb t.net net) where
      twice : (b : Bool) → b ≡ (b && b)
      twice true = refl
      twice false = refl

      never : (b : Bool) → false ≡ (b && false)
      never true = refl
      never false = refl

      was : (b : Bool) → eqb (cond b (record { id = t.id; net = 0 }) t).net net ≡ (eqb t.net net && eqb (cond b (record { id = t.id; net = 0 }) t).net net)
      was true = let gone : eqb 0 net ≡ false = ne_eqb 0 net (λ none. omega (arith, none, some)) in
          gone ∙ never (eqb t.net net) ∙ ap (λ c. eqb t.net net && c) (sym gone)
      was false = twice (eqb t.net net)

-- lines are several where another one than one of them is among them
any_other : (lines : List ℕ) (line : ℕ) → Apart lines → Contains lines line → list_any (λ l. not (eqb l line)) lines ≡ ltb 1 (length lines)
any_other [] line apart member = absurd (member-none line member)
any_other (one ∷ []) line apart member = elim (member-cases one [] line member) [
  | inl same ↦ ap (λ b. not b || false) (eq-eqb one line same)
  | inr later ↦ absurd (member-none line later)
]
any_other (one ∷ (two ∷ lines)) line apart member = elim (cases_eq one line) [
  | inl same ↦
      any-member (λ l. not (eqb l line)) (one ∷ (two ∷ lines)) two (member-tail one (two ∷ lines) two (member-head two lines))
      (ap not (ne_eqb two line (λ e. apart.0 (subst (λ l. Contains (two ∷ lines) l) (e ∙ sym same) (member-head two lines)))))
      ∙ several (length lines)
  | inr other ↦
      any-member (λ l. not (eqb l line)) (one ∷ (two ∷ lines)) one (member-head one (two ∷ lines)) (ap not (ne_eqb one line other)) ∙ several (length lines)
]

fewer : (a b : ℕ) → b ≤ a → (ltb 1 a && ltb 1 b) ≡ ltb 1 b
fewer a b less = grind (arith, nat_tests)

-- the pairs before tell which of the tracks that are kept once some are freed have nets that hold others too
pub TellSplit-freed : (now kept : List Track) (ended : List ℕ) (pairs : List Span) → pairs ≡ neighbours now → kept ≡ freed ended now → TellSplit pairs kept
TellSplit-freed now kept ended pairs pairs_are kept_are line member =
    let at = held_at 1 line kept member in
    let net : ℕ = net_on kept line in
    let place : get_or (nets kept) at.0 0 ≡ net = ap (λ n. get_or (nets kept) n 0) (omega (arith, at.2)) in
    let some : 0 < net = omega (arith, at.3, place) in
    let own = own_lines net now in
    let left : own_lines net kept ≡ filter (λ l. eqb (net_on kept l) net) own =
    ap (λ (l : List Track). own_lines net l) kept_are
    ∙ own_left ended net (net_on kept) 1 now some (λ j within. ap (λ n. get_or (nets kept) n 0) (omega arith) ∙ ap (λ (l : List Track). get_or (nets l) j 0) kept_are) in
    let listed : Contains (own_lines net kept) line = subst (λ l. Contains (own_lines net kept) l) (sym at.2) (own_at net 1 at.0 kept some place) in
    let others : list_any (λ l. not (eqb l line) && eqb (net_on kept l) net) own ≡ ltb 1 (length (own_lines net kept)) =
    sym (any-filter (λ l. not (eqb l line)) (λ l. eqb (net_on kept l) net) own) ∙ ap (list_any (λ l. not (eqb l line))) (sym left)
    ∙ any_other (own_lines net kept) line (Apart-lines_from (λ (t : Track). eqb t.net net) 1 kept) listed in
    ap (list_any (is_end_of net (λ l. not (eqb l line) && eqb (net_on kept l) net))) pairs_are
    ∙ any_ends (λ l. not (eqb l line) && eqb (net_on kept l) net) net some 1 now ∙ ap (λ b. ltb 1 (length own) && b) others
    ∙ fewer (length own) (length (own_lines net kept)) (omega (arith, filter-short (λ l. eqb (net_on kept l) net) own, ap (λ (l : List ℕ). length l) left))

-- a net that has none of some pairs holds no end of them
pub none_other : (pairs : List Span) (kept : List Track) (net line : ℕ) → is_foreign pairs net ≡ true → false ≡ has_other_end pairs kept net line
none_other [] kept net line foreign = refl
none_other (pair ∷ pairs) kept net line foreign =
    let parts = and_parts (not (eqb pair.net net) && leb pair.low pair.high) (is_foreign pairs net) foreign in
    let q = is_held_beside kept net line in
    none_other pairs kept net line parts.1
    ∙ ap (λ b. (b && (q pair.low || q pair.high)) || has_other_end pairs kept net line)
    (sym (other (eqb pair.net net) (and_parts (not (eqb pair.net net)) (leb pair.low pair.high) parts.0).0)) where
      other : (b : Bool) → not b ≡ true → b ≡ false
      other true is = absurd (cc is)
      other false is = refl

-- the rank of a line is found by the pairs
pub rank_told : (next : ℕ → Next) (kept : List Track) (pairs : List Span) (net line : ℕ) (b : Bool) → TellSplit pairs kept → Contains (held_lines kept) line
    → net ≡ net_on kept line → b ≡ has_other_end pairs kept net line → cond b 0 (1 + behind_on next kept line) ≡ rank_on next kept line
rank_told next kept pairs net line b tell member of_net found =
    ap (λ c. cond c 0 (1 + behind_on next kept line)) (found ∙ ap (λ n. has_other_end pairs kept n line) of_net ∙ tell line member)

-- held lines lie below the upper edge
pub held_within : (kept : List Track) (line : ℕ) → Contains (held_lines kept) line → line ≤ length kept
held_within kept line member = let at = held_at 1 line kept member in omega (arith, at.1, at.2)
