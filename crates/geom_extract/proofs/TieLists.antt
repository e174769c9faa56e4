use Rattle.std.proofs.Common.{◌≡◌, ◌≢◌, ◌⊎◌, ◌<◌, ◌+◌, ◌∙◌, ℕ, zero, suc, List, [], ◌∷◌, ◌++◌, Bool, true, false, cond, eqb, Option, Some, None, length, get_or, ap, sym, subst, refl, inl, inr, arith, add-one, append_assoc, append-nil}
use Rattle.std.specs.Prelude.{Contains, slice_index}
use Rattle.std.specs.List.{slice_get}
use Rattle.std.proofs.lemmas.Bool.{cases_lt}
use Rattle.std.proofs.lemmas.Bool.Decides.{eqb_tells}
use Rattle.std.proofs.lemmas.Option.{slice_get-get_or}
use Rattle.design_model.specs.Netlist.{Netlist}
use Rattle.design_model.specs.declared.design.Position.{Position}
use Rattle.geom_extract.specs.CellTies.{cell_ties, first_place, positions_at, tie_of, ties_among, ties_in}
use Rattle.std_laws.proofs.Members.{member-head, member-cases, member-none}
use Rattle.std.proofs.lemmas.List.Elements.{Contains-append_cases, Contains-append_left, Contains-append_right}

-- one more position
pub ties-more : (start : ℕ) (positions : List Position) (n : ℕ) (d : Position) → n < length positions
    → ties_in start positions (n + 1) ≡ ties_in start positions n ++ tie_of start positions n (Some (get_or positions n d))
ties-more start positions n d below =
    rw add-one (ap (λ (o : Option Position). ties_in start positions n ++ tie_of start positions n o) (slice_get-get_or positions n d below))

pub tie-none : (start : ℕ) (positions : List Position) (n : ℕ) (p : Position) → first_place positions p.terminal ≡ n
    → tie_of start positions n (Some p) ≡ []
tie-none start positions n p is = elim (eqb_tells (first_place positions p.terminal) n) [
  | inl (passes, same) ↦ ap (λ (b : Bool). cond b [] ((start + first_place positions p.terminal, start + n) ∷ [])) passes
  | inr (fails, other) ↦ absurd (other is)
]

pub tie-some : (start : ℕ) (positions : List Position) (n : ℕ) (p : Position) → first_place positions p.terminal ≢ n
    → tie_of start positions n (Some p) ≡ (start + first_place positions p.terminal, start + n) ∷ []
tie-some start positions n p other = elim (eqb_tells (first_place positions p.terminal) n) [
  | inl (passes, same) ↦ absurd (other same)
  | inr (fails, differs) ↦ ap (λ (b : Bool). cond b [] ((start + first_place positions p.terminal, start + n) ∷ [])) fails
]

-- so do the ties behind others, where the next position is the first of its terminal, and where it is another
pub push-none : (old now : List (ℕ × ℕ)) (start : ℕ) (positions : List Position) (n : ℕ) (d : Position) → n < length positions
    → now ≡ old ++ ties_in start positions n → first_place positions (get_or positions n d).terminal ≡ n
    → now ≡ old ++ ties_in start positions (n + 1)
push-none old now start positions n d below is same =
    let more : ties_in start positions (n + 1) ≡ ties_in start positions n ++ [] =
    ties-more start positions n d below ∙ ap (λ (l : List (ℕ × ℕ)). ties_in start positions n ++ l) (tie-none start positions n (get_or positions n d) same) in
    is ∙ ap (λ (l : List (ℕ × ℕ)). old ++ l) (sym (more ∙ append-nil (ties_in start positions n)))

pub push-some : (old now new : List (ℕ × ℕ)) (start : ℕ) (positions : List Position) (n first : ℕ) (d : Position) → n < length positions
    → now ≡ old ++ ties_in start positions n → first ≡ first_place positions (get_or positions n d).terminal → first ≢ n
    → new ≡ now ++ (start + first, start + n) ∷ [] → new ≡ old ++ ties_in start positions (n + 1)
push-some old now new start positions n first d below is reads other pushed =
    let tie : List (ℕ × ℕ) = (start + first, start + n) ∷ [] in
    let one : tie_of start positions n (Some (get_or positions n d)) ≡ tie =
    tie-some start positions n (get_or positions n d) (λ same. other (reads ∙ same)) ∙ ap (λ (f : ℕ). (start + f, start + n) ∷ []) (sym reads) in
    let more : ties_in start positions (n + 1) ≡ ties_in start positions n ++ tie =
    ties-more start positions n d below ∙ ap (λ (l : List (ℕ × ℕ)). ties_in start positions n ++ l) one in
    pushed ∙ ap (λ (l : List (ℕ × ℕ)). l ++ tie) is ∙ append_assoc old (ties_in start positions n) tie ∙ ap (λ (l : List (ℕ × ℕ)). old ++ l) (sym more)

-- a tie joins the shape of a position with that of the first of its terminal
pub record IsTie (start : ℕ) (positions : List Position) (t : ℕ × ℕ) : Type 0 where
  pub place : ℕ
  pub position : Position
  pub is : slice_get positions place ≡ Some position
  pub first : t.0 ≡ start + first_place positions position.terminal
  pub second : t.1 ≡ start + place

tie-one : (start : ℕ) (positions : List Position) (n : ℕ) (o : Option Position) (t : ℕ × ℕ) → slice_get positions n ≡ o
    → Contains (tie_of start positions n o) t → IsTie start positions t
tie-one start positions n None t is among = absurd (member-none t among)
tie-one start positions n (Some p) t is among = by (eqb (first_place positions p.terminal) n) among
  where
    tie : ℕ × ℕ
    tie = (start + first_place positions p.terminal, start + n)

    by : (b : Bool) → Contains (cond b [] ((start + first_place positions p.terminal, start + n) ∷ [])) t → IsTie start positions t
    by true among = absurd (member-none t among)
    by false among = elim (member-cases (start + first_place positions p.terminal, start + n) [] t among) [
      | inl same ↦ record {
        place = n;
        position = p;
        is = is;
        first = sym (ap (λ (u : ℕ × ℕ). u.0) same);
        second = sym (ap (λ (u : ℕ × ℕ). u.1) same);
      }
      | inr later ↦ absurd (member-none t later)
    ]

pub tie-in : (start : ℕ) (positions : List Position) (n : ℕ) (t : ℕ × ℕ) → Contains (ties_in start positions n) t → IsTie start positions t
tie-in start positions zero t among = absurd (member-none t among)
tie-in start positions (suc n) t among =
    elim (Contains-append_cases (ties_in start positions n) (tie_of start positions n (slice_get positions n)) t among) [
      | inl before ↦ tie-in start positions n t before
      | inr last ↦ tie-one start positions n (slice_get positions n) t refl last
    ]

-- a position is the first of its terminal, or tied with it
pub in-ties : (start : ℕ) (positions : List Position) (n k : ℕ) (p : Position) → k < n → slice_get positions k ≡ Some p
    → (first_place positions p.terminal ≡ k) ⊎ Contains (ties_in start positions n) (start + first_place positions p.terminal, start + k)
in-ties start positions zero k p below is = absurd (omega arith)
in-ties start positions (suc n) k p below is = elim (cases_lt k n) [
  | inl less ↦ elim (in-ties start positions n k p less is) [
    | inl first ↦ inl first
    | inr among ↦ inr (Contains-append_left (ties_in start positions n) (tie_of start positions n (slice_get positions n)) (start + first_place positions p.terminal, start + k) among)
  ]
  | inr past ↦
      let last : k ≡ n = omega arith in
      let there : slice_get positions n ≡ Some p = ap (λ (m : ℕ). slice_get positions m) (sym last) ∙ is in
      elim (eqb_tells (first_place positions p.terminal) n) [
        | inl (passes, same) ↦ inl (same ∙ sym last)
        | inr (fails, differs) ↦
            let one : tie_of start positions n (slice_get positions n) ≡ (start + first_place positions p.terminal, start + n) ∷ [] =
            ap (λ (o : Option Position). tie_of start positions n o) there ∙ tie-some start positions n p differs in
            let here : Contains (tie_of start positions n (slice_get positions n)) (start + first_place positions p.terminal, start + n) =
            subst (λ (l : List (ℕ × ℕ)). Contains l (start + first_place positions p.terminal, start + n)) (sym one)
            (member-head (start + first_place positions p.terminal, start + n) []) in
            inr (subst (λ (m : ℕ). Contains (ties_in start positions (suc n)) (start + first_place positions p.terminal, start + m)) (sym last)
            (Contains-append_right (ties_in start positions n) (tie_of start positions n (slice_get positions n)) (start + first_place positions p.terminal, start + n) here))
      ]
]

-- a tie among those of instances is one in the cell of an instance
pub tie-among : (d : Netlist) (starts : List ℕ) (n : ℕ) (t : ℕ × ℕ) → Contains (ties_among d starts n) t
    → (m : ℕ) × (m < n) × IsTie (slice_index starts m) (positions_at d m) t
tie-among d starts zero t among = absurd (member-none t among)
tie-among d starts (suc n) t among =
    elim (Contains-append_cases (ties_among d starts n) (cell_ties (slice_index starts n) (positions_at d n)) t among) [
      | inl before ↦ let found = tie-among d starts n t before in (found.0, omega (arith, found.1), found.2)
      | inr last ↦ (n, omega arith, tie-in (slice_index starts n) (positions_at d n) (length (positions_at d n)) t last)
    ]

pub among-ties : (d : Netlist) (starts : List ℕ) (n m : ℕ) (t : ℕ × ℕ) → m < n → Contains (cell_ties (slice_index starts m) (positions_at d m)) t
    → Contains (ties_among d starts n) t
among-ties d starts zero m t below among = absurd (omega arith)
among-ties d starts (suc n) m t below among = elim (cases_lt m n) [
  | inl less ↦ Contains-append_left (ties_among d starts n) (cell_ties (slice_index starts n) (positions_at d n)) t (among-ties d starts n m t less among)
  | inr past ↦
      let last : m ≡ n = omega arith in
      Contains-append_right (ties_among d starts n) (cell_ties (slice_index starts n) (positions_at d n)) t
      (subst (λ (k : ℕ). Contains (cell_ties (slice_index starts k) (positions_at d k)) t) last among)
]
