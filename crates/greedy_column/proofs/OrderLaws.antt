use Rattle.std.proofs.Common.{◌≡◌, inl, inr, ◌++◌, ◌&&◌, not, ℕ, List, [], ◌∷◌, Bool, true, false, cond, filter, sym, subst, ap, arith, Contains}
use Rattle.std.proofs.lemmas.Bool.Decides.{nat_tests}
use Rattle.std.proofs.lemmas.List.Elements.{Contains-append_cases}
use Rattle.std.specs.List.Sorted.{IsStableByKey, ties}
use Rattle.std.specs.Ordering.{is_lt, nat_cmp}
use Rattle.choose_core.specs.declared.candidate.Next.{Next}
use Rattle.choose_core.specs.declared.plan.Manner.{Manner}
use Rattle.choose_core.specs.declared.plan.Manner.TheVariants.{Published, LookingAhead}
use Rattle.greedy_column.specs.declared.column.Track.{Track}
use Rattle.greedy_column.specs.declared.span.Span.{Span}
use Rattle.greedy_column.specs.Lines.{held_lines, is_held}
use Rattle.greedy_column.specs.Moving.{IsOrderOfMoves, behind_on, is_movable, is_split, movable_lines}
use Rattle.greedy_column.proofs.IdLaws.{Apart}
use Rattle.greedy_column.proofs.PartLaws.{Apart-lines_from}
use Rattle.std_laws.proofs.Members.{member-head, member-tail, filter-member, filter-from}

Apart-filter : (p : ℕ → Bool) (xs : List ℕ) → Apart xs → Apart (filter p xs)
Apart-filter p [] apart = tt
Apart-filter p (x ∷ xs) apart = step (p x) (Apart-filter p xs apart.1) where
  step : (b : Bool) → Apart (filter p xs) → Apart (cond b (x ∷ filter p xs) (filter p xs))
  step true later = ((λ member. apart.0 (filter-from p xs x member).0), later)
  step false later = later

Apart-append : (xs ys : List ℕ) → Apart xs → Apart ys → ((x : ℕ) → Contains xs x → Contains ys x → ⊥) → Apart (xs ++ ys)
Apart-append [] ys first second none = second
Apart-append (x ∷ xs) ys first second none = (
  (λ member. elim (Contains-append_cases xs ys x member) [ inl one ↦ first.0 one | inr other ↦ none x (member-head x xs) other ]),
  Apart-append xs ys first.1 second (λ y one other. none y (member-tail x xs y one) other),
)

-- numbers of one key
abbrev like : (ℕ → ℕ) → ℕ → ℕ → Bool
like key x y = ties (λ a b. is_lt (nat_cmp (key a) (key b))) x y

like_itself : (key : ℕ → ℕ) (x : ℕ) → like key x x ≡ true
like_itself key x = equal (key x) where
  equal : (k : ℕ) → (not (is_lt (nat_cmp k k)) && not (is_lt (nat_cmp k k))) ≡ true
  equal k = grind (arith, nat_tests)

-- numbers are apart where those of each key are
apart_by_key : (key : ℕ → ℕ) (xs : List ℕ) → ((x : ℕ) → Apart (filter (like key x) xs)) → Apart xs
apart_by_key key [] each = tt
apart_by_key key (y ∷ ys) each = (
  (λ member. (subst (λ b. Apart (cond b (y ∷ filter (like key y) ys) (filter (like key y) ys))) (like_itself key y) (each y)).0
      (filter-member (like key y) ys y member (like_itself key y))),
  apart_by_key key ys (λ x. later (like key x y) x (each x)),
) where
  later : (b : Bool) (x : ℕ) → Apart (cond b (y ∷ filter (like key x) ys) (filter (like key x) ys)) → Apart (filter (like key x) ys)
  later true x apart = apart.1
  later false x apart = apart

module _ (key : ℕ → ℕ) (xs ys : List ℕ) (stable : IsStableByKey key nat_cmp xs ys) where
  -- a stable sort keeps its members, and leaves them apart
  in_sorted : (x : ℕ) → Contains ys x → Contains xs x
  in_sorted x member =
      (filter-from (like key x) xs x (subst (λ l. Contains l x) (stable x) (filter-member (like key x) ys x member (like_itself key x)))).0

  Apart-sorted : Apart xs → Apart ys
  Apart-sorted apart = apart_by_key key ys (λ x. subst (λ l. Apart l) (sym (stable x)) (Apart-filter (like key x) xs apart))

-- the lines of an order are those that are ordered, and each stands there once
in_order : (manner : Manner) (next : ℕ → Next) (kept : List Track) (lines order : List ℕ) → IsOrderOfMoves manner next kept lines order
    → (line : ℕ) → Contains order line → Contains lines line
in_order Published next kept lines order is line member = subst (λ l. Contains l line) is member
in_order LookingAhead next kept lines order is line member =
    elim (Contains-append_cases (filter (is_split kept) lines) is.others line (subst (λ l. Contains l line) is.split_first member)) [
      | inl split ↦ (filter-from (is_split kept) lines line split).0
      | inr other ↦ (filter-from (λ l. not (is_split kept l)) lines line
          (in_sorted (behind_on next kept) (filter (λ l. not (is_split kept l)) lines) is.others is.farthest_first.stable line other)).0
    ]

once_in_order : (manner : Manner) (next : ℕ → Next) (kept : List Track) (lines order : List ℕ) → Apart lines → IsOrderOfMoves manner next kept lines order
    → Apart order
once_in_order Published next kept lines order apart is = subst (λ l. Apart l) (sym is) apart
once_in_order LookingAhead next kept lines order apart is =
    let unsplit : List ℕ = filter (λ l. not (is_split kept l)) lines in
    subst (λ l. Apart l) (sym is.split_first)
    (Apart-append (filter (is_split kept) lines) is.others (Apart-filter (is_split kept) lines apart)
    (Apart-sorted (behind_on next kept) unsplit is.others is.farthest_first.stable (Apart-filter (λ l. not (is_split kept l)) lines apart))
    (λ x split other.
    let one = (filter-from (is_split kept) lines x split).1 in
    let two = (filter-from (λ l. not (is_split kept l)) lines x (in_sorted (behind_on next kept) unsplit is.others is.farthest_first.stable x other)).1 in
    cc (ap not one, two)))

module _ (manner : Manner) (next : ℕ → Next) (kept : List Track) (spans : List Span) (free order : List ℕ)
    (is : IsOrderOfMoves manner next kept (movable_lines spans free kept) order) where
  -- the lines of an order of moves are held
  pub held_in_order : (line : ℕ) → Contains order line → Contains (held_lines kept) line
  held_in_order line member =
      (filter-from (is_movable spans free kept) (held_lines kept) line (in_order manner next kept (movable_lines spans free kept) order is line member)).0

  -- and each stands there once
  pub Apart-order : Apart order
  Apart-order =
      once_in_order manner next kept (movable_lines spans free kept) order
      (Apart-filter (is_movable spans free kept) (held_lines kept) (Apart-lines_from is_held 1 kept)) is
