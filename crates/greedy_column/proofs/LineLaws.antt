use Rattle.std.proofs.Common.{◌≡◌, inl, inr, ◌<◌, ◌≤◌, ◌+◌, ◌^◌, ◌++◌, ℕ, suc, List, [], ◌∷◌, Bool, true, false, cond, ltb, length, filter, sym, subst, ◌∙◌, arith, Contains, length-append}
use Rattle.std.proofs.lemmas.List.{append-nil}
use Rattle.std.proofs.lemmas.List.Elements.{Contains-append_cases}
use Rattle.greedy_column.specs.declared.column.Track.{Track}
use Rattle.greedy_column.specs.Lines.{lines_from, above_lowest, below_line, AreLines}
use Rattle.std_laws.proofs.Members.{member-none, member-head, member-tail, filter-from, member-if}
use Rattle.std_laws.proofs.Counts.{filter-short}

-- a track that passes a test stands on a line
pub record StandsOn (passes : Track → Bool) (tracks : List Track) (first line : ℕ) : Type 0 where
  pub above : first ≤ line
  pub below : line < first + length tracks
  pub track : Track
  pub there : Contains tracks track
  pub passing : passes track ≡ true

pub lines_from-each : (passes : Track → Bool) (first line : ℕ) (tracks : List Track) → Contains (lines_from passes first tracks) line
    → StandsOn passes tracks first line
lines_from-each passes first line [] member = absurd (member-none line member)
lines_from-each passes first line (t ∷ tracks) member =
    elim (Contains-append_cases (cond (passes t) (first ∷ []) []) (lines_from passes (suc first) tracks) line member) [
      | inl here ↦ let one = member-if (passes t) first line here in
          record { above = omega (arith, one.0); below = omega (arith, one.0); track = t; there = member-head t tracks; passing = one.1 }
      | inr later ↦ let found = lines_from-each passes (suc first) line tracks later in
          record {
            above = omega (arith, found.above);
            below = omega (arith, found.below);
            track = found.track;
            there = member-tail t tracks found.track found.there;
            passing = found.passing;
          }
    ]

one_long : (b : Bool) (line : ℕ) → length (cond b (line ∷ []) []) ≤ 1
one_long true line = omega arith
one_long false line = omega arith

pub lines_from-few : (passes : Track → Bool) (first : ℕ) (tracks : List Track) → length (lines_from passes first tracks) ≤ length tracks
lines_from-few passes first [] = omega arith
lines_from-few passes first (t ∷ tracks) =
    omega (
      arith,
      length-append (cond (passes t) (first ∷ []) []) (lines_from passes (suc first) tracks),
      one_long (passes t) first,
      lines_from-few passes (suc first) tracks,
    )

-- lines of so many tracks, not more than there are
pub record LieWithin (tracks : ℕ) (lines : List ℕ) : Type 0 where
  pub each : (line : ℕ) → Contains lines line → (0 < line) × (line ≤ tracks)
  pub few : length lines ≤ tracks

pub LieWithin-lines : (passes : Track → Bool) (tracks : List Track) → LieWithin (length tracks) (lines_from passes 1 tracks)
LieWithin-lines passes tracks = record {
  each = λ line member. let found = lines_from-each passes 1 line tracks member in (omega (arith, found.above), omega (arith, found.below));
  few = lines_from-few passes 1 tracks;
}

-- lines that a loop has found, once no track is left
pub LieWithin-found : (passes : Track → Bool) (line : ℕ) (tracks rest : List Track) (lines : List ℕ) → length rest ≡ 0
    → lines ++ lines_from passes line rest ≡ lines_from passes 1 tracks → LieWithin (length tracks) lines
LieWithin-found passes line tracks [] lines none found =
    subst (λ (l : List ℕ). LieWithin (length tracks) l) (sym (sym (append-nil lines) ∙ found)) (LieWithin-lines passes tracks)
LieWithin-found passes line tracks (t ∷ rest) lines none found = absurd (omega arith)

-- a line above the lowest of others has one of them below it
pub below_line-some : (others lines : List ℕ) (line : ℕ) → Contains (above_lowest others lines) line → 0 < length (below_line line others)
below_line-some [] lines line member = absurd (member-none line member)
below_line-some (lowest ∷ others) lines line member =
    let above = (filter-from (λ l. ltb lowest l) lines line member).1 in
    subst (λ b. 0 < length (cond b (lowest ∷ filter (λ l. ltb l line) others) (filter (λ l. ltb l line) others))) (sym above) (omega arith)

-- lines within tracks that are few
pub AreLines-within : (tracks : ℕ) (lines : List ℕ) → tracks + 1 < 2 ^ 32 → LieWithin tracks lines → AreLines lines
AreLines-within tracks lines few within = record {
  each = λ line member. let each = within.each line member in (each.0, omega (arith, each.1, few));
  few = omega (arith, within.few, few);
}

pub AreLines-filter : (p : ℕ → Bool) (lines : List ℕ) → AreLines lines → AreLines (filter p lines)
AreLines-filter p lines are = record {
  each = λ line member. are.each line (filter-from p lines line member).0;
  few = omega (arith, filter-short p lines, are.few);
}
