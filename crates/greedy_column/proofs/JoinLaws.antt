use Rattle.std.proofs.Common.{◌≡◌, ◌<◌, ◌++◌, ◌&&◌, ◌||◌, not, eqb, leb, ℕ, List, [], ◌∷◌, Bool, true, false, length, refl, sym, ap, ◌∙◌, arith, Contains}
use Rattle.std.proofs.lemmas.List.{append-nil}
use Rattle.std.proofs.lemmas.Bool.{and_parts, and_from, or_right}
use Rattle.std.proofs.lemmas.Bool.Decides.{nat_tests}
use Rattle.std.proofs.lemmas.List.Folds.{list_any-append, list_all-append}
use Rattle.choose_core.specs.declared.candidate.Candidate.{Candidate}
use Rattle.choose_core.specs.declared.candidate.Next.{Next}
use Rattle.greedy_column.specs.declared.span.Span.{Span}
use Rattle.greedy_column.specs.Joining.{JoinsFollow, covers, passes, is_joined, is_clear, possible_joins}
use Rattle.std_laws.proofs.Members.{filter-from}
use Rattle.std_laws.proofs.Counts.{filter-less}

or_left : (b c : Bool) → not (b || c) ≡ true → not b ≡ true
or_left true c h = h
or_left false c h = refl

-- with one more vertical no other join is possible than before, and the vertical itself is none
still_possible : (spans : List Span) (pair s : Span) → (not (is_joined (spans ++ pair ∷ []) s) && is_clear (spans ++ pair ∷ []) s) ≡ true
    → (not (is_joined spans s) && is_clear spans s) ≡ true
still_possible spans pair s h =
    let parts = and_parts (not (is_joined (spans ++ pair ∷ []) s)) (is_clear (spans ++ pair ∷ []) s) h in
    let apart : not (is_joined spans s || is_joined (pair ∷ []) s) ≡ true =
    ap not (sym (list_any-append (covers s) spans (pair ∷ []))) ∙ parts.0 in
    let clear = and_parts (is_clear spans s) (is_clear (pair ∷ []) s) (sym (list_all-append (passes s) spans (pair ∷ [])) ∙ parts.1) in
    and_from (not (is_joined spans s)) (is_clear spans s) (or_left (is_joined spans s) (is_joined (pair ∷ []) s) apart) clear.0

itself : (n a b : ℕ) → (eqb n n && (leb a a && leb b b)) ≡ true
itself n a b = grind (arith, nat_tests)

not_itself : (spans : List Span) (pair : Span) → (not (is_joined (spans ++ pair ∷ []) pair) && is_clear (spans ++ pair ∷ []) pair) ≡ false
not_itself spans pair =
    let here : is_joined (pair ∷ []) pair ≡ true = ap (λ b. b || false) (itself pair.net pair.low pair.high) in
    let joined : is_joined (spans ++ pair ∷ []) pair ≡ true =
    list_any-append (covers pair) spans (pair ∷ []) ∙ or_right (is_joined spans pair) (is_joined (pair ∷ []) pair) here in
    ap (λ b. not b && is_clear (spans ++ pair ∷ []) pair) joined

pub possible_joins-less : (spans pairs : List Span) (pair : Span) → Contains (possible_joins spans pairs) pair
    → length (possible_joins (spans ++ pair ∷ []) pairs) < length (possible_joins spans pairs)
possible_joins-less spans pairs pair member =
    let found = filter-from (λ s. not (is_joined spans s) && is_clear spans s) pairs pair member in
    filter-less (λ s. not (is_joined spans s) && is_clear spans s) (λ s. not (is_joined (spans ++ pair ∷ []) s) && is_clear (spans ++ pair ∷ []) s) pair pairs
    (λ s h. still_possible spans pair s h) found.0 found.1 (not_itself spans pair)

-- the joins end where none is possible, and go on with one that is picked
module _ (may : List Candidate → ℕ → Type 0) (next : ℕ → Next) (pairs : List Span) where
  pub joins_end : (first spans joined : List Span) → possible_joins spans pairs ≡ []
      → ((rest : List Span) → JoinsFollow may next pairs spans rest → JoinsFollow may next pairs first (joined ++ rest))
      → JoinsFollow may next pairs first joined
  joins_end first spans joined none so_far = rw append-nil at (so_far [] none)
