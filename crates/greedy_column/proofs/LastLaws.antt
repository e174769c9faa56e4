use Rattle.std.proofs.Common.{◌≡◌, inl, inr, ◌<◌, ◌++◌, ◌&&◌, eqb, leb, ltb, max, ℕ, suc, List, [], ◌∷◌, Bool, true, false, cond, length, set, get_or, refl, sym, ap, ◌∙◌, append_assoc, arith, eqb-true}
use Rattle.std.proofs.lemmas.Bool.{cases_eq, eq-eqb, ne_eqb}
use Rattle.std.proofs.lemmas.Bool.Decides.{nat_tests}
use Rattle.std.proofs.lemmas.List.{get_or-set_same, get_or-set_other}
use Rattle.choose_core.specs.declared.candidate.Next.{Next}
use Rattle.choose_core.specs.declared.candidate.Next.TheVariants.{Top, Bottom, Both}
use Rattle.greedy_column.specs.declared.uses.Use.{Use}
use Rattle.greedy_column.specs.Entering.{is_ending}
use Rattle.greedy_column.specs.Uses.{AreAtEdges, next_after, use_at, uses_from}

-- the uses by pins are at edges
at_edge : (net column : ℕ) (next : Next) (uses : List Use) → is_ending next ≡ false → AreAtEdges uses → AreAtEdges (use_at net column next ++ uses)
at_edge net column next uses told are = step (eqb net 0) where
  step : (b : Bool) → AreAtEdges (cond b [] (record { net = net; column = column; next = next } ∷ []) ++ uses)
  step true = are
  step false = (told, are)

pub AreAtEdges-from : (top bottom : List ℕ) (column : ℕ) → AreAtEdges (uses_from top bottom column)
AreAtEdges-from [] bottom column = tt
AreAtEdges-from (a ∷ top) [] column = tt
AreAtEdges-from (a ∷ top) (b ∷ bottom) column =
    step (eqb a b) a b column (uses_from top bottom (suc column)) (AreAtEdges-from top bottom (suc column)) where
      step : (same : Bool) (a b column : ℕ) (uses : List Use) → AreAtEdges uses
          → AreAtEdges (cond same (use_at a column Both) (use_at a column Top ++ use_at b column Bottom) ++ uses)
      step true a b column uses later = at_edge a column Both uses refl later
      step false a b column uses later =
          rw append_assoc (at_edge a column Top (use_at b column Bottom ++ uses) refl (at_edge b column Bottom uses refl later))

-- the greater of two numbers is written
pub noted_one : (reached before : List ℕ) (net last : ℕ) → net < length reached → ((k : ℕ) → get_or reached k 0 ≡ get_or before k 0) → (k : ℕ)
    → get_or (set reached net last) k 0 ≡ cond (eqb net k) last (get_or before k 0)
noted_one reached before net last inside alike k = elim (cases_eq net k) [
  | inl same ↦
      ap (λ n. get_or (set reached net last) n 0) (sym same) ∙ get_or-set_same reached net last 0 inside
      ∙ sym (ap (λ b. cond b last (get_or before k 0)) (eq-eqb net k same))
  | inr other ↦
      get_or-set_other reached net k last 0 (λ same. other (sym same)) ∙ alike k
      ∙ sym (ap (λ b. cond b last (get_or before k 0)) (ne_eqb net k other))
]

-- a greater number is reached where both are
over : (x c column : ℕ) → ltb column c ≡ true → leb (max x c) column ≡ false
over x c column is = grind (arith, nat_tests)

under : (x c column : ℕ) → ltb column c ≡ false → leb (max x c) column ≡ leb x column
under x c column is = grind (arith, nat_tests)

never : (b : Bool) → false ≡ (b && false)
never true = refl
never false = refl

-- the last columns so far, and the uses that are left
pub lasts_more : (u : Use) (uses all : List Use) (before after : List ℕ) → is_ending u.next ≡ false
    → ((k : ℕ) → get_or after k 0 ≡ cond (eqb u.net k) (max (get_or before k 0) u.column) (get_or before k 0))
    → ((column net : ℕ) → (leb (get_or before net 0) column && is_ending (next_after (u ∷ uses) column net)) ≡ is_ending (next_after all column net))
    → (column net : ℕ) → (leb (get_or after net 0) column && is_ending (next_after uses column net)) ≡ is_ending (next_after all column net)
lasts_more u uses all before after told noted so_far column net =
    ap (λ n. leb n column && is_ending (next_after uses column net)) (noted net) ∙ own (eqb u.net net) ∙ so_far column net where
      later : (b : Bool) → ltb column u.column ≡ b → (leb (max (get_or before net 0) u.column) column && is_ending (next_after uses column net))
          ≡ (leb (get_or before net 0) column && is_ending (cond b u.next (next_after uses column net)))
      later true is =
          ap (λ b. b && is_ending (next_after uses column net)) (over (get_or before net 0) u.column column is) ∙ never (leb (get_or before net 0) column)
          ∙ ap (λ b. leb (get_or before net 0) column && b) (sym told)
      later false is = ap (λ b. b && is_ending (next_after uses column net)) (under (get_or before net 0) u.column column is)

      own : (b : Bool) → (leb (cond b (max (get_or before net 0) u.column) (get_or before net 0)) column && is_ending (next_after uses column net))
          ≡ (leb (get_or before net 0) column && is_ending (cond (b && ltb column u.column) u.next (next_after uses column net)))
      own true = later (ltb column u.column) refl
      own false = refl

pub lasts_none : (uses : List Use) (column net : ℕ) (lasts : List ℕ) → lasts ≡ []
    → (leb (get_or lasts net 0) column && is_ending (next_after uses column net)) ≡ is_ending (next_after uses column net)
lasts_none uses column net lasts none =
    ap (λ l. leb (get_or l net 0) column && is_ending (next_after uses column net)) none
    ∙ ap (λ b. b && is_ending (next_after uses column net)) (least column) where
      least : (n : ℕ) → leb 0 n ≡ true
      least n = grind (arith, nat_tests)

pub lasts_all : (rest all : List Use) (lasts : List ℕ) (column net : ℕ) → rest ≡ []
    → (leb (get_or lasts net 0) column && is_ending (next_after rest column net)) ≡ is_ending (next_after all column net)
    → leb (get_or lasts net 0) column ≡ is_ending (next_after all column net)
lasts_all rest all lasts column net none so_far =
    always (leb (get_or lasts net 0) column) ∙ sym (ap (λ l. leb (get_or lasts net 0) column && is_ending (next_after l column net)) none) ∙ so_far where
      always : (b : Bool) → b ≡ (b && true)
      always true = refl
      always false = refl

pub own_entry : (before : List ℕ) (net column last k : ℕ) → last ≡ max (get_or before net 0) column
    → cond (eqb net k) last (get_or before k 0) ≡ cond (eqb net k) (max (get_or before k 0) column) (get_or before k 0)
own_entry before net column last k is = step (eqb net k) refl where
  step : (b : Bool) → eqb net k ≡ b → cond b last (get_or before k 0) ≡ cond b (max (get_or before k 0) column) (get_or before k 0)
  step true same = is ∙ ap (λ n. max (get_or before n 0) column) (eqb-true net k same)
  step false same = refl
