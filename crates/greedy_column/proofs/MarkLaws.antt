use Rattle.std.proofs.Common.{◌≡◌, inl, inr, ◌<◌, ◌&&◌, ◌||◌, not, eqb, ℕ, List, [], ◌∷◌, Bool, true, false, length, set, get_or, refl, sym, ap, ◌∙◌, eq-eqb}
use Rattle.std.proofs.lemmas.Bool.{cases_eq, ne_eqb}
use Rattle.std.proofs.lemmas.List.{get_or-set_same, get_or-set_other}
use Rattle.std.specs.List.{list_any}
use Rattle.greedy_column.specs.declared.span.Span.{Span}
use Rattle.greedy_column.specs.Desk.{MarksSplit, MarksWithin, is_marked}
use Rattle.greedy_column.specs.Ending.{is_split}
use Rattle.greedy_column.specs.Joining.{is_joined}
use Rattle.greedy_column.proofs.DeskLaws.{set-none}

-- one more net is marked, or none where its pair is joined
pub marked_one : (reached before : List ℕ) (net : ℕ) (joined : Bool) → joined ≡ false → net < length reached
    → ((k : ℕ) → get_or reached k 0 ≡ get_or before k 0) → (k : ℕ)
    → is_marked (set reached net 1) k ≡ ((eqb net k && not joined) || is_marked before k)
marked_one reached before net joined apart inside alike k =
    told ∙ sym (ap (λ j. (eqb net k && not j) || is_marked before k) apart) where
      told : is_marked (set reached net 1) k ≡ ((eqb net k && true) || is_marked before k)
      told = elim (cases_eq net k) [
        | inl same ↦
            ap (λ n. is_marked (set reached net 1) n) (sym same) ∙ ap (λ n. not (eqb n 0)) (get_or-set_same reached net 1 0 inside)
            ∙ sym (ap (λ b. (b && true) || is_marked before k) (eq-eqb net k same))
        | inr other ↦
            ap (λ n. not (eqb n 0)) (get_or-set_other reached net k 1 0 (λ same. other (sym same)) ∙ alike k)
            ∙ sym (ap (λ b. (b && true) || is_marked before k) (ne_eqb net k other))
      ]

pub marked_none : (before : List ℕ) (net : ℕ) (joined : Bool) → joined ≡ true → (k : ℕ)
    → is_marked before k ≡ ((eqb net k && not joined) || is_marked before k)
marked_none before net joined is k =
    sym (ap (λ b. b || is_marked before k) (and_false (eqb net k))) ∙ sym (ap (λ j. (eqb net k && not j) || is_marked before k) is) where
      and_false : (b : Bool) → (b && false) ≡ false
      and_false true = refl
      and_false false = refl

-- the marks so far, and the pairs that are left
pub marks_more : (spans : List Span) (pair : Span) (others all : List Span) (before after : List ℕ)
    → ((k : ℕ) → is_marked after k ≡ ((eqb pair.net k && not (is_joined spans pair)) || is_marked before k))
    → ((k : ℕ) → (is_marked before k || is_split spans (pair ∷ others) k) ≡ is_split spans all k)
    → (k : ℕ) → (is_marked after k || is_split spans others k) ≡ is_split spans all k
marks_more spans pair others all before after one so_far k =
    ap (λ b. b || is_split spans others k) (one k)
    ∙ swap (eqb pair.net k && not (is_joined spans pair)) (is_marked before k) (is_split spans others k) ∙ so_far k where
      swap : (a m r : Bool) → ((a || m) || r) ≡ (m || (a || r))
      swap true true r = refl
      swap true false r = refl
      swap false m r = refl

-- no net is marked that is of none of the pairs
not_split : (spans pairs : List Span) (net : ℕ) → list_any (λ (pair : Span). eqb pair.net net) pairs ≡ false → is_split spans pairs net ≡ false
not_split spans [] net none = refl
not_split spans (pair ∷ pairs) net none = step (eqb pair.net net) none (λ later. not_split spans pairs net later) where
  step : (b : Bool) → (b || list_any (λ (pair : Span). eqb pair.net net) pairs) ≡ false
      → (list_any (λ (pair : Span). eqb pair.net net) pairs ≡ false → is_split spans pairs net ≡ false)
      → ((b && not (is_joined spans pair)) || is_split spans pairs net) ≡ false
  step true none later = absurd (cc none)
  step false none later = later none

pub MarksWithin-split : (spans pairs : List Span) (marks : List ℕ) → MarksSplit spans pairs marks → MarksWithin pairs marks
MarksWithin-split spans pairs marks split = λ net none. unmarked (get_or marks net 0) (split net ∙ not_split spans pairs net none) where
  unmarked : (entry : ℕ) → not (eqb entry 0) ≡ false → entry ≡ 0
  unmarked entry is = elim (cases_eq entry 0) [
    | inl zero ↦ zero
    | inr some ↦ let marked : not (eqb entry 0) ≡ true = ap not (ne_eqb entry 0 some) in absurd (cc (marked, is))
  ]

-- the mark of a pair's net is taken away
pub MarksWithin-more : (marks : List ℕ) (pair : Span) (pairs : List Span) → MarksWithin (pair ∷ pairs) marks → MarksWithin pairs (set marks pair.net 0)
MarksWithin-more marks pair pairs within = λ net none. elim (cases_eq pair.net net) [
  | inl same ↦ ap (λ n. get_or (set marks pair.net 0) n 0) (sym same) ∙ set-none marks pair.net
  | inr other ↦
      get_or-set_other marks pair.net net 0 0 (λ same. other (sym same))
      ∙ within net (ap (λ b. b || list_any (λ (pair : Span). eqb pair.net net) pairs) (ne_eqb pair.net net other) ∙ none)
]
