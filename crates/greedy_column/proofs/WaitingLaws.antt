use Rattle.std.proofs.Common.{◌≡◌, ◌<◌, ◌+◌, ◌++◌, ◌&&◌, not, ℕ, suc, List, [], ◌∷◌, Bool, true, false, cond, length, filter, get_or, map, refl, sym, subst, ap, ◌∙◌, arith, Contains}
use Rattle.std.proofs.Math.ListN.{get_or-map}
use Rattle.std.proofs.lemmas.Bool.Decides.{nat_tests}
use Rattle.std.proofs.lemmas.List.{get_or-append-add, get_or_default, length-append, length-map}
use Rattle.std.proofs.lemmas.List.Sorted.{Contains-permutation, IsNonDecreasingBy-short, IsPermutation-sym}
use Rattle.std.specs.List.Sorted.{IsNonDecreasingBy, IsPermutation, IsStableByKey, ties}
use Rattle.std.specs.Ordering.{is_lt, nat_cmp}
use Rattle.choose_core.specs.declared.candidate.Next.{Next}
use Rattle.greedy_column.specs.declared.column.Track.{Track}
use Rattle.greedy_column.specs.declared.move_order.Waiting.{Waiting}
use Rattle.greedy_column.specs.Moving.{AreOrdered, IsOrderAhead, behind_on, is_split, rank_on, waiting}
use Rattle.std_laws.proofs.Counts.{filter-same}
use Rattle.std_laws.proofs.Images.{filter-map}
use Rattle.std_laws.proofs.Members.{filter-from, map-cases, member-head, member-tail}

-- two ranks are one
abbrev like : ℕ → ℕ → Bool
like n m = ties (λ a b. is_lt (nat_cmp a b)) n m

abbrev line_of_waiting : Waiting → ℕ
line_of_waiting w = w.line

-- lines are sorted by rank, and those of each rank stand as they stood
pub record AreRanked (rank : ℕ → ℕ) (lines order : List ℕ) : Type 0 where
  pub sorted : IsNonDecreasingBy rank order
  pub steady : (n : ℕ) → filter (λ line. like n (rank line)) order ≡ filter (λ line. like n (rank line)) lines

module _ (rank : ℕ → ℕ) where
  lines_back : (lines : List ℕ) → map line_of_waiting (map (waiting rank) lines) ≡ lines
  lines_back [] = refl
  lines_back (line ∷ lines) = ap (λ l. line ∷ l) (lines_back lines)

  restored : (ws : List Waiting) → ((w : Waiting) → Contains ws w → waiting rank w.line ≡ w) → map (waiting rank) (map line_of_waiting ws) ≡ ws
  restored [] each = refl
  restored (w ∷ ws) each = λ i. each w (member-head w ws) i ∷ restored ws (λ v member. each v (member-tail w ws v member)) i

  rising : (lines : List ℕ) → IsNonDecreasingBy (λ (w : Waiting). w.rank) (map (waiting rank) lines) → IsNonDecreasingBy rank lines
  rising lines sorted i j d order within =
      let long : length (map (waiting rank) lines) ≡ length lines = length-map lines (waiting rank) in
      let h = sorted i j (waiting rank d) order (omega (arith, within, long)) in
      omega (
        arith,
        h,
        ap (λ (w : Waiting). w.rank) (get_or-map (waiting rank) lines i d),
        ap (λ (w : Waiting). w.rank) (get_or-map (waiting rank) lines j d),
      )

  steady : (lines order : List ℕ) → IsStableByKey (λ (w : Waiting). w.rank) nat_cmp (map (waiting rank) lines) (map (waiting rank) order)
      → (n : ℕ) → filter (λ line. like n (rank line)) order ≡ filter (λ line. like n (rank line)) lines
  steady lines order stable n =
      let alike : Waiting → Bool = λ w. like n w.rank in
      let same : map (waiting rank) (filter (λ line. like n (rank line)) order) ≡ map (waiting rank) (filter (λ line. like n (rank line)) lines) =
      sym (filter-map alike (waiting rank) order) ∙ stable (record { line = 0; rank = n }) ∙ filter-map alike (waiting rank) lines in
      sym (lines_back (filter (λ line. like n (rank line)) order)) ∙ ap (map line_of_waiting) same
      ∙ lines_back (filter (λ line. like n (rank line)) lines)

  -- lines are ranked by a stable sort of what waits on them
  AreRanked-from_sort : (lines order : List ℕ) (found sorted : List Waiting) → found ≡ map (waiting rank) lines
      → IsNonDecreasingBy (λ (w : Waiting). w.rank) sorted → IsStableByKey (λ (w : Waiting). w.rank) nat_cmp found sorted → IsPermutation found sorted
      → order ≡ map (λ (w : Waiting). w.line) sorted → AreRanked rank lines order
  AreRanked-from_sort lines order found sorted is rises stable permuted told =
      let each : (w : Waiting) → Contains sorted w → waiting rank w.line ≡ w = λ w member.
      let at = map-cases (waiting rank) lines w (subst (λ (l : List Waiting). Contains l w) is (Contains-permutation sorted found w (IsPermutation-sym found sorted permuted) member)) in
      ap (waiting rank) (sym (ap (λ (v : Waiting). v.line) at.2)) ∙ at.2 in
      let whole : sorted ≡ map (waiting rank) order = sym (restored sorted each) ∙ ap (map (waiting rank)) (sym told) in
      record {
        sorted = rising order (subst (λ (l : List Waiting). IsNonDecreasingBy (λ (w : Waiting). w.rank) l) whole rises);
        steady = steady lines order
            (subst (λ (l : List Waiting). IsStableByKey (λ (w : Waiting). w.rank) nat_cmp l (map (waiting rank) order)) is
            (subst (λ (l : List Waiting). IsStableByKey (λ (w : Waiting). w.rank) nat_cmp found l) whole stable));
      }

filter_twice : (p q : ℕ → Bool) (xs : List ℕ) → filter p (filter q xs) ≡ filter (λ x. q x && p x) xs
filter_twice p q [] = refl
filter_twice p q (x ∷ xs) = step (q x) (p x) (filter_twice p q xs) where
  step : (b c : Bool) → filter p (filter q xs) ≡ filter (λ y. q y && p y) xs
      → filter p (cond b (x ∷ filter q xs) (filter q xs)) ≡ cond (b && p x) (x ∷ filter (λ y. q y && p y) xs) (filter (λ y. q y && p y) xs)
  step true c later = ap (λ l. cond (p x) (x ∷ l) l) later
  step false c later = later

-- ranks of lines: the lowest one for those that are first, and else by a key
module _ (first : ℕ → Bool) (key : ℕ → ℕ) where
  abbrev rank_by : ℕ → ℕ
  rank_by line = cond (first line) 0 (1 + key line)

  abbrev later : ℕ → Bool
  later line = not (first line)

  like_first : (line : ℕ) → like 0 (rank_by line) ≡ first line
  like_first line = step (first line) where
    step : (b : Bool) → like 0 (cond b 0 (1 + key line)) ≡ b
    step true = refl
    step false = above (key line) where
      above : (k : ℕ) → like 0 (1 + k) ≡ false
      above k = grind (arith, nat_tests)

  like_later : (n line : ℕ) → like (1 + n) (rank_by line) ≡ (later line && like n (key line))
  like_later n line = step (first line) where
    step : (b : Bool) → like (1 + n) (cond b 0 (1 + key line)) ≡ (not b && like n (key line))
    step true = below n where
      below : (k : ℕ) → like (1 + k) 0 ≡ false
      below k = grind (arith, nat_tests)
    step false = both n (key line) where
      both : (k m : ℕ) → like (1 + k) (1 + m) ≡ like k m
      both k m = grind (arith, nat_tests)

  -- those of a higher rank than the lowest one are no first ones
  none_first : (lines : List ℕ) → ((j d : ℕ) → j < length lines → 0 < rank_by (get_or lines j d)) → lines ≡ filter first lines ++ filter later lines
  none_first lines above = sym ((λ i. gone lines above i ++ filter later lines) ∙ all lines above) where
    one : (b : Bool) (k : ℕ) → 0 < cond b 0 (1 + k) → b ≡ false
    one true k some = absurd (omega (arith, some))
    one false k some = refl

    gone : (xs : List ℕ) → ((j d : ℕ) → j < length xs → 0 < rank_by (get_or xs j d)) → filter first xs ≡ []
    gone [] above = refl
    gone (x ∷ xs) above =
        ap (λ b. cond b (x ∷ filter first xs) (filter first xs)) (one (first x) (key x) (above 0 0 (omega arith)))
        ∙ gone xs (λ j d within. above (suc j) d (omega (arith, within)))

    all : (xs : List ℕ) → ((j d : ℕ) → j < length xs → 0 < rank_by (get_or xs j d)) → filter later xs ≡ xs
    all [] above = refl
    all (x ∷ xs) above =
        ap (λ b. cond (not b) (x ∷ filter later xs) (filter later xs)) (one (first x) (key x) (above 0 0 (omega arith)))
        ∙ ap (λ l. x ∷ l) (all xs (λ j d within. above (suc j) d (omega (arith, within))))

  -- lines by rank are the first ones and then the others
  parted : (order : List ℕ) → IsNonDecreasingBy rank_by order → order ≡ filter first order ++ filter later order
  parted [] sorted = refl
  parted (line ∷ order) sorted = step (first line) refl (parted order (λ i j d up within. sorted (suc i) (suc j) d (omega arith) (omega (arith, within)))) where
    step : (b : Bool) → first line ≡ b → order ≡ filter first order ++ filter later order
        → line ∷ order ≡ cond b (line ∷ filter first order) (filter first order) ++ cond (not b) (line ∷ filter later order) (filter later order)
    step true is rest = ap (λ l. line ∷ l) rest
    step false is rest =
        none_first (line ∷ order) (λ j d within.
        let least = sorted 0 j d (omega arith) within in
        omega (arith, least, ap (λ b. cond b 0 (1 + key line)) is))
        ∙ (λ i. cond (is i) (line ∷ filter first order) (filter first order) ++ cond (not (is i)) (line ∷ filter later order) (filter later order))

  -- and these stand by key
  keyed : (order : List ℕ) → IsNonDecreasingBy rank_by order → IsNonDecreasingBy key (filter later order)
  keyed order sorted i j d up within =
      let some : ℕ = length (filter first order) in
      let cut : (k : ℕ) → get_or order (some + k) d ≡ get_or (filter later order) k d = λ k.
      ap (λ l. get_or l (some + k) d) (parted order sorted) ∙ get_or-append-add (filter first order) (filter later order) k d in
      let long : length order ≡ some + length (filter later order) = ap (λ (l : List ℕ). length l) (parted order sorted) ∙ length-append (filter first order) (filter later order) in
      let least = sorted (some + i) (some + j) d (omega (arith, up)) (omega (arith, within, long)) in
      let of_later : (k : ℕ) → k < length (filter later order) → rank_by (get_or order (some + k) d) ≡ 1 + key (get_or (filter later order) k d) = λ k here.
      ap rank_by (cut k) ∙ over (get_or (filter later order) k d) (filter-from later order (get_or (filter later order) k d)
      (k, here, get_or_default (filter later order) k (get_or (filter later order) k d) d here)).1 in
      omega (arith, least, of_later i (omega (arith, up, within)), of_later j within) where
        over : (line : ℕ) → later line ≡ true → rank_by line ≡ 1 + key line
        over line is = step (first line) is where
          step : (b : Bool) → not b ≡ true → cond b 0 (1 + key line) ≡ 1 + key line
          step true is = absurd (cc is)
          step false is = refl

  -- so ranked lines are the first ones as they stood, and then the others by key
  firsts : (lines order : List ℕ) → AreRanked rank_by lines order → order ≡ filter first lines ++ filter later order
  firsts lines order ranked =
      parted order ranked.sorted
      ∙ ap (λ l. l ++ filter later order)
      (filter-same first (λ line. like 0 (rank_by line)) order (λ x member. sym (like_first x)) ∙ ranked.steady 0
      ∙ filter-same (λ line. like 0 (rank_by line)) first lines (λ x member. like_first x))

  AreOrdered-later : (lines order : List ℕ) → AreRanked rank_by lines order → AreOrdered key (filter later lines) (filter later order)
  AreOrdered-later lines order ranked = record {
    sorted = keyed order ranked.sorted;
    stable = λ x.
        filter_twice (λ y. like (key x) (key y)) later order
        ∙ filter-same (λ y. later y && like (key x) (key y)) (λ y. like (1 + key x) (rank_by y)) order (λ y member. sym (like_later (key x) y))
        ∙ ranked.steady (1 + key x)
        ∙ filter-same (λ y. like (1 + key x) (rank_by y)) (λ y. later y && like (key x) (key y)) lines (λ y member. like_later (key x) y)
        ∙ sym (filter_twice (λ y. like (key x) (key y)) later lines);
  }

-- lines are in order as they are ranked
pub IsOrderAhead-from_sort : (next : ℕ → Next) (kept : List Track) (lines order : List ℕ) (found sorted : List Waiting)
    → found ≡ map (waiting (rank_on next kept)) lines → IsNonDecreasingBy (λ (w : Waiting). w.rank) sorted
    → IsStableByKey (λ (w : Waiting). w.rank) nat_cmp found sorted → IsPermutation found sorted → order ≡ map (λ (w : Waiting). w.line) sorted
    → IsOrderAhead next kept lines order
IsOrderAhead-from_sort next kept lines order found sorted is rises stable permuted told =
    let ranked = AreRanked-from_sort (rank_on next kept) lines order found sorted is rises stable permuted told in
    record {
      others = filter (λ line. not (is_split kept line)) order;
      split_first = firsts (is_split kept) (behind_on next kept) lines order ranked;
      farthest_first = AreOrdered-later (is_split kept) (behind_on next kept) lines order ranked;
    }

-- fewer than two lines are in order as they stand
pub IsOrderAhead-few : (next : ℕ → Next) (kept : List Track) (lines : List ℕ) → length lines < 2 → IsOrderAhead next kept lines lines
IsOrderAhead-few next kept lines few =
    let ranked : AreRanked (rank_on next kept) lines lines =
    record { sorted = IsNonDecreasingBy-short (rank_on next kept) lines (omega (arith, few)); steady = λ n. refl } in
    record {
      others = filter (λ line. not (is_split kept line)) lines;
      split_first = firsts (is_split kept) (behind_on next kept) lines lines ranked;
      farthest_first = AreOrdered-later (is_split kept) (behind_on next kept) lines lines ranked;
    }
