use Rattle.std.proofs.Common.{◌≡◌, ◌≢◌, ◌<◌, ◌≤◌, ◌^◌, ◌+◌, ◌++◌, ◌&&◌, not, eqb, leb, ltb, ℕ, zero, suc, List, [], ◌∷◌, Bool, true, false, cond, length, filter, get_or, take, drop, refl, sym, ap, subst, ◌∙◌, arith, Contains, eq-eqb}
use Rattle.std.proofs.lemmas.Bool.{leb-false, leb-true, ne_eqb, not_from_false}
use Rattle.std.proofs.lemmas.Bool.Decides.{nat_tests}
use Rattle.std.proofs.lemmas.List.{append-nil}
use Rattle.std.proofs.lemmas.List.Elements.{Contains-get_or}
use Rattle.std.proofs.lemmas.List.Kept.{AllPairs-from_increasing, IsStrictlyIncreasing-filter}
use Rattle.std.specs.List.{remove}
use Rattle.std.specs.List.Sorted.{IsNonDecreasing, IsStrictlyIncreasing}
use Rattle.greedy_column.specs.declared.column.Track.{Track}
use Rattle.greedy_column.specs.declared.span.Span.{Span}
use Rattle.greedy_column.specs.declared.window.Window.{Window}
use Rattle.greedy_column.specs.Joining.{is_clear}
use Rattle.greedy_column.specs.Lines.{AreAscending, lines_from}
use Rattle.greedy_column.specs.Moving.{is_within, move_options, piece_between, without}
use Rattle.greedy_column.proofs.LineLaws.{AreLines-filter, lines_from-each}
use Rattle.std_laws.proofs.Counts.{filter-same}
use Rattle.std_laws.proofs.Members.{empty-none, filter-from, member-head, member-tail}
use Rattle.std_laws.proofs.Increasing.{increasing-missing, increasing-rest}

-- a number below all of an ascending list, and then that list, ascend
increasing-cons : (x : ℕ) (xs : List ℕ) → ((y : ℕ) → Contains xs y → x < y) → IsStrictlyIncreasing xs → IsStrictlyIncreasing (x ∷ xs)
increasing-cons x xs below rising zero within = below (get_or xs 0 0) (Contains-get_or xs 0 0 (omega (arith, within)))
increasing-cons x xs below rising (suc k) within =
    let e : suc (k + 1) ≡ suc k + 1 = omega arith in
    subst (λ n. get_or xs k 0 < get_or (x ∷ xs) n 0) e (rising k (omega (arith, within)))

-- lines of tracks ascend
lines_from-ascend : (passes : Track → Bool) (first : ℕ) (tracks : List Track) → IsStrictlyIncreasing (lines_from passes first tracks)
lines_from-ascend passes first [] = λ k within. absurd (omega (arith, within))
lines_from-ascend passes first (t ∷ tracks) = step (passes t) (lines_from-ascend passes (suc first) tracks) where
  step : (b : Bool) → IsStrictlyIncreasing (lines_from passes (suc first) tracks)
      → IsStrictlyIncreasing (cond b (first ∷ []) [] ++ lines_from passes (suc first) tracks)
  step true later = increasing-cons first (lines_from passes (suc first) tracks)
      (λ line member. let found = lines_from-each passes (suc first) line tracks member in omega (arith, found.above)) later
  step false later = later

-- and so do those that a loop has found, once no track is left
pub Ascending-found : (passes : Track → Bool) (line : ℕ) (tracks rest : List Track) (lines : List ℕ) → length rest ≡ 0
    → lines ++ lines_from passes line rest ≡ lines_from passes 1 tracks → IsStrictlyIncreasing lines
Ascending-found passes line tracks [] lines none found =
    subst (λ (l : List ℕ). IsStrictlyIncreasing l) (sym (sym (append-nil lines) ∙ found)) (lines_from-ascend passes 1 tracks)
Ascending-found passes line tracks (t ∷ rest) lines none found = absurd (omega (arith, none))

pub AreAscending-filter : (p : ℕ → Bool) (lines : List ℕ) → AreAscending lines → AreAscending (filter p lines)
AreAscending-filter p lines are =
    record { on_tracks = AreLines-filter p lines are.on_tracks; ascending = IsStrictlyIncreasing-filter p lines are.ascending }

-- a filter keeps all of a list that passes
kept_all : (p : ℕ → Bool) (xs : List ℕ) → ((x : ℕ) → Contains xs x → p x ≡ true) → xs ≡ filter p xs
kept_all p [] each = refl
kept_all p (x ∷ xs) each =
    ap (λ l. x ∷ l) (kept_all p xs (λ y member. each y (member-tail x xs y member)))
    ∙ ap (λ b. cond b (x ∷ filter p xs) (filter p xs)) (sym (each x (member-head x xs)))

-- what passes from a place on, and up to a place
pub passing_from : (p : ℕ → Bool) (place : ℕ) (xs : List ℕ) → ((k d : ℕ) → k < place → p (get_or xs k d) ≡ false)
    → ((k d : ℕ) → place ≤ k → k < length xs → p (get_or xs k d) ≡ true) → drop place xs ≡ filter p xs
passing_from p zero [] front rest = refl
passing_from p (suc place) [] front rest = refl
passing_from p zero (x ∷ xs) front rest =
    ap (λ l. x ∷ l) (passing_from p zero xs (λ k d below. absurd (omega (arith, below))) (λ k d above within. rest (suc k) d (omega arith) (omega (arith, within))))
    ∙ ap (λ b. cond b (x ∷ filter p xs) (filter p xs)) (sym (rest 0 0 (omega arith) (omega arith)))
passing_from p (suc place) (x ∷ xs) front rest =
    passing_from p place xs (λ k d below. front (suc k) d (omega (arith, below))) (λ k d above within. rest (suc k) d (omega (arith, above)) (omega (arith, within)))
    ∙ ap (λ b. cond b (x ∷ filter p xs) (filter p xs)) (sym (front 0 0 (omega arith)))

pub passing_to : (p : ℕ → Bool) (place : ℕ) (xs : List ℕ) → place ≤ length xs → ((k d : ℕ) → k < place → p (get_or xs k d) ≡ true)
    → ((k d : ℕ) → place ≤ k → k < length xs → p (get_or xs k d) ≡ false) → take place xs ≡ filter p xs
passing_to p zero [] within front rest = refl
passing_to p (suc place) [] within front rest = absurd (omega (arith, within))
passing_to p zero (x ∷ xs) within front rest =
    passing_to p zero xs (omega arith) (λ k d below. absurd (omega (arith, below))) (λ k d above inner. rest (suc k) d (omega arith) (omega (arith, inner)))
    ∙ ap (λ b. cond b (x ∷ filter p xs) (filter p xs)) (sym (rest 0 0 (omega arith) (omega arith)))
passing_to p (suc place) (x ∷ xs) within front rest =
    ap (λ l. x ∷ l) (passing_to p place xs (omega (arith, within)) (λ k d below. front (suc k) d (omega (arith, below)))
    (λ k d above inner. rest (suc k) d (omega (arith, above)) (omega (arith, inner))))
    ∙ ap (λ b. cond b (x ∷ filter p xs) (filter p xs)) (sym (front 0 0 (omega arith)))

-- a number is not below a least one just where this does not lie above it
pub reaches : (low x : ℕ) → ltb x low ≡ true → leb low x ≡ false
reaches low x below = grind (arith, nat_tests)

pub reaches_not : (low x : ℕ) → ltb x low ≡ false → leb low x ≡ true
reaches_not low x above = grind (arith, nat_tests)

-- two filters, one after another
pub filter-filter : (p q : ℕ → Bool) (xs : List ℕ) → filter q (filter p xs) ≡ filter (λ x. p x && q x) xs
filter-filter p q [] = refl
filter-filter p q (x ∷ xs) = step (p x) (filter-filter p q xs) where
  step : (b : Bool) → filter q (filter p xs) ≡ filter (λ y. p y && q y) xs
      → filter q (cond b (x ∷ filter p xs) (filter p xs)) ≡ cond (b && q x) (x ∷ filter (λ y. p y && q y) xs) (filter (λ y. p y && q y) xs)
  step true later = ap (λ l. cond (q x) (x ∷ l) l) later
  step false later = later

other_test : (x line : ℕ) → x ≢ line → not (eqb x line) ≡ true
other_test x line apart = not_from_false (eqb x line) (ne_eqb x line apart)

-- a line that stands at a place of ascending ones, and one that stands at none
pub without_found : (line place : ℕ) (xs : List ℕ) → IsStrictlyIncreasing xs → place < length xs → get_or xs place 0 ≡ line → remove xs place ≡ without line xs
without_found line place [] rising within is = absurd (omega (arith, within))
without_found line zero (x ∷ xs) rising within is =
    kept_all (λ y. not (eqb y line)) xs (λ y member.
    other_test y line (λ same. let less = AllPairs-from_increasing (x ∷ xs) rising 0 (suc member.0) y (omega arith) (omega (arith, member.1)) in
    omega (arith, less, member.2, same, is)))
    ∙ ap (λ b. cond (not b) (x ∷ without line xs) (without line xs)) (sym (eq-eqb x line is))
without_found line (suc place) (x ∷ xs) rising within is =
    let less = AllPairs-from_increasing (x ∷ xs) rising 0 (suc place) 0 (omega arith) within in
    ap (λ l. x ∷ l) (without_found line place xs (increasing-rest x xs rising) (omega (arith, within)) is)
    ∙ ap (λ b. cond b (x ∷ without line xs) (without line xs)) (sym (other_test x line (λ same. omega (arith, less, same, is))))

pub without_missing : (line place : ℕ) (xs : List ℕ) → ((k : ℕ) → k < place → get_or xs k 0 < line)
    → ((k : ℕ) → place ≤ k → k < length xs → line < get_or xs k 0) → xs ≡ without line xs
without_missing line place xs below above =
    kept_all (λ y. not (eqb y line)) xs (λ y member.
    other_test y line (λ same. increasing-missing xs line place below above (subst (λ n. Contains xs n) same member)))

some_are : (n : ℕ) → true ≡ ltb 0 (suc n)
some_are n = grind (arith, nat_tests)

-- one of ascending lines lies at or below a highest one just where the first does
pub first_tells : (high x : ℕ) (xs : List ℕ) → IsNonDecreasing (x ∷ xs) → leb x high ≡ ltb 0 (length (filter (λ y. leb y high) (x ∷ xs)))
first_tells high x xs rises = step (leb x high) refl where
  step : (b : Bool) → leb x high ≡ b → b ≡ ltb 0 (length (cond b (x ∷ filter (λ y. leb y high) xs) (filter (λ y. leb y high) xs)))
  step true is = some_are (length (filter (λ y. leb y high) xs))
  step false is =
      let none : filter (λ y. leb y high) xs ≡ [] = empty-none (filter (λ y. leb y high) xs) (λ y member.
      let from = filter-from (λ z. leb z high) xs y member in
      let order = rises 0 (suc from.0.0) y (omega arith) (omega (arith, from.0.1)) in
      omega (arith, order, from.0.2, leb-false x high is, leb-true y high from.1)) in
      sym (ap (λ (l : List ℕ). ltb 0 (length l)) none)

-- the lines within a window that tells to which a track may go are its options
pub window_options : (window : Window) (spans : List Span) (net line : ℕ) (free : List ℕ) → AreAscending free
    → ((other : ℕ) → other < 2 ^ 32 → is_within window other ≡ is_clear spans (piece_between net line other))
    → filter (is_within window) free ≡ move_options spans net line free
window_options window spans net line free are tells =
    filter-same (is_within window) (λ other. is_clear spans (piece_between net line other)) free
    (λ other member. tells other (omega (arith, (are.on_tracks.each other member).1)))

-- no line lies within a window whose lowest line lies above its highest one
nothing_within : (low high x : ℕ) → high < low → (leb low x && leb x high) ≡ false
nothing_within low high x less = grind (arith, nat_tests)

pub none_within : (window : Window) (lines : List ℕ) → window.high < window.low → [] ≡ filter (is_within window) lines
none_within window [] less = refl
none_within window (x ∷ xs) less =
    none_within window xs less
    ∙ ap (λ b. cond b (x ∷ filter (is_within window) xs) (filter (is_within window) xs)) (sym (nothing_within window.low window.high x less))
