use Rattle.std.proofs.Common.{◌≡◌, ◌&&◌, ◌||◌, ◌<◌, ◌+◌, ◌++◌, not, eqb, leb, ltb, ℕ, zero, suc, List, [], ◌∷◌, Bool, true, false, cond, length, filter, find, get_or, replicate, Some, refl, sym, ap, subst, ◌∙◌, arith}
use Rattle.std.proofs.lemmas.Bool.{and_parts}
use Rattle.std.proofs.lemmas.Bool.Decides.{nat_tests}
use Rattle.greedy_column.specs.declared.column.Track.{Track}
use Rattle.greedy_column.specs.declared.span.Span.{Span}
use Rattle.greedy_column.specs.Joining.{is_clear}
use Rattle.greedy_column.specs.Lines.{is_held, lines_from, net_on}
use Rattle.greedy_column.specs.Moving.{has_option, is_foreign, is_within, lines_of, movable_lines, piece_between}
use Rattle.greedy_column.proofs.TableLaws.{nets}
use Rattle.greedy_column.proofs.WindowLaws.{clear}
use Rattle.std_laws.proofs.Counts.{filter-same}

-- two lines on one side of what lies from a bottom to a top
clear_same : (line other_line other bottom top : ℕ) → leb bottom top ≡ true → clear line other_line bottom top ≡ true
    → clear other_line other bottom top ≡ clear line other bottom top
clear_same line other_line other bottom top order apart = grind (arith, nat_tests)

one_side : (own other_own : Bool) (line other_line other bottom top : ℕ) → (not own && leb bottom top) ≡ true → (not other_own && leb bottom top) ≡ true
    → (own || clear line other_line bottom top) ≡ true → (other_own || clear other_line other bottom top) ≡ (own || clear line other bottom top)
one_side true other_own line other_line other bottom top mine yours apart = absurd (cc mine)
one_side false true line other_line other bottom top mine yours apart = absurd (cc yours)
one_side false false line other_line other bottom top mine yours apart = clear_same line other_line other bottom top mine apart

-- from two lines that no vertical parts the ways to a third one are clear alike, for nets that have none of the verticals
clear_alike : (spans : List Span) (net line other_net other_line other : ℕ) → is_foreign spans net ≡ true → is_foreign spans other_net ≡ true
    → is_clear spans (piece_between net line other_line) ≡ true
    → is_clear spans (piece_between other_net other_line other) ≡ is_clear spans (piece_between net line other)
clear_alike [] net line other_net other_line other mine yours apart = refl
clear_alike (s ∷ spans) net line other_net other_line other mine yours apart =
    let first = and_parts (not (eqb s.net net) && leb s.low s.high) (is_foreign spans net) mine in
    let second = and_parts (not (eqb s.net other_net) && leb s.low s.high) (is_foreign spans other_net) yours in
    let clears = and_parts (eqb s.net net || clear line other_line s.low s.high) (is_clear spans (piece_between net line other_line)) apart in
    let here : (eqb s.net other_net || clear other_line other s.low s.high) ≡ (eqb s.net net || clear line other s.low s.high) =
    one_side (eqb s.net net) (eqb s.net other_net) line other_line other s.low s.high first.0 second.0 clears.0 in
    let later = clear_alike spans net line other_net other_line other first.1 second.1 clears.1 in
    λ i. here i && later i

-- and so the tracks on both have the same options
pub options_alike : (spans : List Span) (free : List ℕ) (net line other_net other_line : ℕ) → is_foreign spans net ≡ true → is_foreign spans other_net ≡ true
    → is_clear spans (piece_between net line other_line) ≡ true → has_option spans free net line ≡ has_option spans free other_net other_line
options_alike spans free net line other_net other_line mine yours apart =
    ap (λ (l : List ℕ). ltb 0 (length l))
    (filter-same (λ other. is_clear spans (piece_between net line other)) (λ other. is_clear spans (piece_between other_net other_line other)) free
    (λ other member. sym (clear_alike spans net line other_net other_line other mine yours apart)))

-- the lines of the held ones of these tracks that have a free line to go to, the first of which stands on this line
abbrev pub movable_from : List Span → List ℕ → ℕ → List Track → List ℕ
movable_from spans free line [] = []
movable_from spans free line (t ∷ tracks) =
    cond (not (eqb t.net 0) && has_option spans free t.net line) (line ∷ []) [] ++ movable_from spans free (suc line) tracks

-- a line that is listed where it is wanted passes a test with the others
pub filter_one : (p : ℕ → Bool) (line : ℕ) (lines : List ℕ) (b : Bool) → cond (b && p line) (line ∷ []) [] ++ filter p lines ≡ filter p (cond b (line ∷ []) [] ++ lines)
filter_one p line lines true = step (p line) where
  step : (c : Bool) → cond c (line ∷ []) [] ++ filter p lines ≡ cond c (line ∷ filter p lines) (filter p lines)
  step true = refl
  step false = refl
filter_one p line lines false = refl

-- they are those that are movable, as their nets are told by their lines
told_from : (spans : List Span) (free : List ℕ) (net_at : ℕ → ℕ) (line : ℕ) (tracks : List Track)
    → ((j : ℕ) → j < length tracks → net_at (line + j) ≡ get_or (nets tracks) j 0)
    → movable_from spans free line tracks ≡ filter (λ l. has_option spans free (net_at l) l) (lines_from is_held line tracks)
told_from spans free net_at line [] told = refl
told_from spans free net_at line (t ∷ tracks) told =
    let here : t.net ≡ net_at line = sym (ap net_at (omega arith) ∙ told 0 (omega arith)) in
    let later = told_from spans free net_at (suc line) tracks (λ j within. ap net_at (omega arith) ∙ told (suc j) (omega (arith, within))) in
    (λ i. cond (not (eqb t.net 0) && has_option spans free (here i) line) (line ∷ []) [] ++ later i)
    ∙ filter_one (λ l. has_option spans free (net_at l) l) line (lines_from is_held (suc line) tracks) (not (eqb t.net 0))

pub movable_from-all : (spans : List Span) (free : List ℕ) (kept : List Track) → movable_from spans free 1 kept ≡ movable_lines spans free kept
movable_from-all spans free kept = told_from spans free (net_on kept) 1 kept (λ j within. ap (λ n. get_or (nets kept) n 0) (omega arith))

-- no line lies in a window of none
pub in_none : (line : ℕ) → (leb 1 line && leb line 0) ≡ true → ⊥
in_none line within = let parts = and_parts (leb 1 line) (leb line 0) within in both line parts.0 parts.1 where
  both : (n : ℕ) → leb 1 n ≡ true → leb n 0 ≡ true → ⊥
  both n low high = grind (arith, nat_tests)

-- where all remainders of nets are noted, nothing is told of any
pub noted_all : (n net : ℕ) → get_or (replicate n true) net true ≡ true
noted_all zero net = refl
noted_all (suc n) zero = refl
noted_all (suc n) (suc net) = noted_all n net

and_none : (b : Bool) → (b && false) ≡ false
and_none true = refl
and_none false = refl

-- nothing is left of a list where nothing passes
none_pass : (p : ℕ → Bool) (xs : List ℕ) → ((x : ℕ) → p x ≡ false) → filter p xs ≡ []
none_pass p [] none = refl
none_pass p (x ∷ xs) none = ap (λ b. cond b (x ∷ filter p xs) (filter p xs)) (none x) ∙ none_pass p xs none

-- no way from a line that a vertical of another net covers is clear of it
barred : (own : Bool) (line other bottom top : ℕ) → not own ≡ true → leb bottom line ≡ true → leb line top ≡ true
    → (own || clear line other bottom top) ≡ false
barred true line other bottom top foreign begins ends = absurd (cc foreign)
barred false line other bottom top foreign begins ends = grind (arith, nat_tests)

-- so where the first vertical that covers one line covers another one too, no way from this is clear, for nets that have none of the verticals
shut : (spans : List Span) (v : Span) (at net line other : ℕ) → find (λ (s : Span). is_within (lines_of s) at) spans ≡ Some v → is_foreign spans net ≡ true
    → is_within (lines_of v) line ≡ true → is_clear spans (piece_between net line other) ≡ false
shut [] v at net line other found foreign on = absurd (cc found)
shut (s ∷ spans) v at net line other found foreign on =
    let parts = and_parts (not (eqb s.net net) && leb s.low s.high) (is_foreign spans net) foreign in
    step (and_parts (not (eqb s.net net)) (leb s.low s.high) parts.0).0 (is_within (lines_of s) at) found (λ is. shut spans v at net line other is parts.1 on) where
      step : not (eqb s.net net) ≡ true → (b : Bool) → cond b (Some s) (find (λ (u : Span). is_within (lines_of u) at) spans) ≡ Some v
          → (find (λ (u : Span). is_within (lines_of u) at) spans ≡ Some v → is_clear spans (piece_between net line other) ≡ false)
          → is_clear (s ∷ spans) (piece_between net line other) ≡ false
      step apart true is later =
          let same : v ≡ s = cc is in
          let here = and_parts (leb s.low line) (leb line s.high) (subst (λ (u : Span). is_within (lines_of u) line ≡ true) same on) in
          ap (λ b. b && is_clear spans (piece_between net line other)) (barred (eqb s.net net) line other s.low s.high apart here.0 here.1)
      step apart false is later =
          ap (λ b. (eqb s.net net || clear line other s.low s.high) && b) (later is) ∙ and_none (eqb s.net net || clear line other s.low s.high)

-- and the track has no option
pub none_past : (spans : List Span) (v : Span) (at net line : ℕ) (free : List ℕ) → find (λ (s : Span). is_within (lines_of s) at) spans ≡ Some v
    → is_foreign spans net ≡ true → is_within (lines_of v) line ≡ true → false ≡ has_option spans free net line
none_past spans v at net line free found foreign on =
    sym (ap (λ (l : List ℕ). ltb 0 (length l)) (none_pass (λ other. is_clear spans (piece_between net line other)) free (λ other. shut spans v at net line other found foreign on)))

-- the vertical that is found covers its line
pub found_on : (spans : List Span) (v : Span) (at : ℕ) → find (λ (s : Span). is_within (lines_of s) at) spans ≡ Some v → is_within (lines_of v) at ≡ true
found_on [] v at found = absurd (cc found)
found_on (s ∷ spans) v at found = step (is_within (lines_of s) at) refl found (λ is. found_on spans v at is) where
  step : (b : Bool) → is_within (lines_of s) at ≡ b → cond b (Some s) (find (λ (u : Span). is_within (lines_of u) at) spans) ≡ Some v
      → (find (λ (u : Span). is_within (lines_of u) at) spans ≡ Some v → is_within (lines_of v) at ≡ true) → is_within (lines_of v) at ≡ true
  step true on is later =
      let same : s ≡ v = cc is in
      subst (λ (u : Span). is_within (lines_of u) at ≡ true) same on
  step false on is later = later is
