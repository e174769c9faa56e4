use Rattle.std.proofs.Common.{◌≡◌, inl, inr, subst, ◌<◌, ◌≤◌, ◌+◌, ◌^◌, ◌++◌, ◌||◌, eqb, ℕ, suc, List, [], ◌∷◌, Bool, true, false, cond, Contains, Option, Some, None, length, filter, get_or, refl, arith, length-append}
use Rattle.std.specs.List.{list_any}
use Rattle.greedy_column.specs.declared.column.Track.{Track}
use Rattle.greedy_column.specs.declared.span.Span.{Span}
use Rattle.greedy_column.specs.Joining.{ArePairs, next_line, pair_of, neighbours_from, neighbours}
use Rattle.greedy_column.specs.Ending.{chain_from}
use Rattle.std_laws.proofs.Members.{member-none, member-cases, filter-from}
use Rattle.std_laws.proofs.Counts.{filter-short}

-- where the next track of a net stands
pub next_line-within : (net line above : ℕ) (tracks : List Track) → next_line net line tracks ≡ Some above → (line ≤ above) × (above < line + length tracks)
next_line-within net line above [] found = absurd (cc found)
next_line-within net line above (t ∷ tracks) found = step (eqb t.net net) found (λ later. next_line-within net (suc line) above tracks later) where
  step : (b : Bool) → cond b (Some line) (next_line net (suc line) tracks) ≡ Some above
      → (next_line net (suc line) tracks ≡ Some above → (suc line ≤ above) × (above < suc line + length tracks)) → (line ≤ above) × (above < line + suc (length tracks))
  step true found later = let same : line ≡ above = cc found in (omega (arith, same), omega (arith, same))
  step false found later = let within = later found in (omega (arith, within.0), omega (arith, within.1))

-- pieces within so many tracks, by ascending lower line, the first of which is at least this one
abbrev pub AreAscending : ℕ → ℕ → List Span → Type 0
AreAscending tracks first [] = Unit {0}
AreAscending tracks first (pair ∷ pairs) =
    (first ≤ pair.low) × (pair.low < pair.high) × (pair.high ≤ tracks) × AreAscending tracks (suc pair.low) pairs

ascending_lower : (tracks first lower : ℕ) (pairs : List Span) → lower ≤ first → AreAscending tracks first pairs → AreAscending tracks lower pairs
ascending_lower tracks first lower [] order ascending = tt
ascending_lower tracks first lower (pair ∷ pairs) order (begins, upward, within, later) = (omega (arith, begins), upward, within, later)

pub neighbours_from-ascending : (count line : ℕ) (tracks : List Track) → line + length tracks ≤ count + 1 → AreAscending count line (neighbours_from line tracks)
neighbours_from-ascending count line [] within = tt
neighbours_from-ascending count line (t ∷ tracks) within =
    step (next_line t.net (suc line) tracks) t.net (neighbours_from (suc line) tracks) (λ above found. next_line-within t.net (suc line) above tracks found)
    (neighbours_from-ascending count (suc line) tracks (omega arith)) where
      step : (o : Option ℕ) (net : ℕ) (rest : List Span)
          → ((above : ℕ) → o ≡ Some above → (suc line ≤ above) × (above < suc line + length tracks)) → AreAscending count (suc line) rest
          → AreAscending count line (pair_of net line o ++ rest)
      step None net rest bounds later = ascending_lower count (suc line) line rest (omega arith) later
      step (Some above) net rest bounds later = choose (eqb net 0) where
        choose : (b : Bool) → AreAscending count line (cond b [] (record { net = net; low = line; high = above } ∷ []) ++ rest)
        choose true = ascending_lower count (suc line) line rest (omega arith) later
        choose false = let bound = bounds above refl in (omega arith, omega (arith, bound.0), omega (arith, bound.1, within), later)

pub neighbours-ascending : (tracks : List Track) → AreAscending (length tracks) 1 (neighbours tracks)
neighbours-ascending tracks = neighbours_from-ascending (length tracks) 1 tracks (omega arith)

pair_of-few : (net line : ℕ) (o : Option ℕ) → length (pair_of net line o) ≤ 1
pair_of-few net line None = omega arith
pair_of-few net line (Some above) = choose (eqb net 0) where
  choose : (b : Bool) → length {A = Span} (cond b [] (record { net = net; low = line; high = above } ∷ [])) ≤ 1
  choose true = omega arith
  choose false = omega arith

pub neighbours_from-few : (line : ℕ) (tracks : List Track) → length (neighbours_from line tracks) ≤ length tracks
neighbours_from-few line [] = omega arith
neighbours_from-few line (t ∷ tracks) =
    omega (
      arith,
      length-append (pair_of t.net line (next_line t.net (suc line) tracks)) (neighbours_from (suc line) tracks),
      pair_of-few t.net line (next_line t.net (suc line) tracks),
      neighbours_from-few (suc line) tracks,
    )

pub AreAscending-filter : (tracks first : ℕ) (p : Span → Bool) (pairs : List Span) → AreAscending tracks first pairs → AreAscending tracks first (filter p pairs)
AreAscending-filter tracks first p [] ascending = tt
AreAscending-filter tracks first p (pair ∷ pairs) (begins, upward, within, later) =
    step (p pair) (AreAscending-filter tracks (suc pair.low) p pairs later) where
      step : (b : Bool) → AreAscending tracks (suc pair.low) (filter p pairs) → AreAscending tracks first (cond b (pair ∷ filter p pairs) (filter p pairs))
      step true rest = (begins, upward, within, rest)
      step false rest = ascending_lower tracks (suc pair.low) first (filter p pairs) (omega (arith, begins)) rest

above_first : (tracks first : ℕ) (pairs : List Span) → 0 < first → AreAscending tracks first pairs → (pair : Span) → Contains pairs pair → 0 < pair.low
above_first tracks first [] some ascending = λ pair member. absurd (member-none pair member)
above_first tracks first (one ∷ pairs) some (begins, upward, inside, later) = λ pair member. elim (member-cases one pairs pair member) [
  | inl same ↦ subst (λ (p : Span). 0 < p.low) same (omega (arith, begins, some))
  | inr behind ↦ above_first tracks (suc one.low) pairs (omega arith) later pair behind
]

pub ArePairs-neighbours : (tracks : List Track) → length tracks + 2 < 2 ^ 32 → ArePairs (neighbours tracks)
ArePairs-neighbours tracks few = record {
  few = omega (arith, neighbours_from-few 1 tracks, few);
  above = above_first (length tracks) 1 (neighbours tracks) (omega arith) (neighbours-ascending tracks);
}

pub ArePairs-filter : (p : Span → Bool) (pairs : List Span) → ArePairs pairs → ArePairs (filter p pairs)
ArePairs-filter p pairs are = record {
  few = omega (arith, filter-short p pairs, are.few);
  above = λ pair member. are.above pair (filter-from p pairs pair member).0;
}

-- a line to which none is joined above
pub chain_from-alone : (joined : List Span) (line : ℕ) → list_any (λ (pair : Span). eqb pair.low line) joined ≡ false → chain_from joined line ≡ line ∷ []
chain_from-alone [] line none = refl
chain_from-alone (pair ∷ joined) line none = step (eqb pair.low line) none (λ h. chain_from-alone joined line h) where
  step : (b : Bool) → (b || list_any (λ (pair : Span). eqb pair.low line) joined) ≡ false
      → (list_any (λ (pair : Span). eqb pair.low line) joined ≡ false → chain_from joined line ≡ line ∷ [])
      → cond b (line ∷ chain_from joined pair.high) (chain_from joined line) ≡ line ∷ []
  step true none later = absurd (cc none)
  step false none later = later none

-- a chain begins with its first line
pub chain_from-first : (joined : List Span) (line : ℕ) → get_or (chain_from joined line) 0 0 ≡ line
chain_from-first [] line = refl
chain_from-first (pair ∷ joined) line = step (eqb pair.low line) (chain_from-first joined line) where
  step : (b : Bool) → get_or (chain_from joined line) 0 0 ≡ line → get_or (cond b (line ∷ chain_from joined pair.high) (chain_from joined line)) 0 0 ≡ line
  step true later = refl
  step false later = later
