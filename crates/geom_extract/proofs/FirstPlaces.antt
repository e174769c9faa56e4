use Rattle.std.proofs.Common.{◌≡◌, ◌<◌, ◌≤◌, ◌+◌, ◌∙◌, ℕ, zero, suc, List, [], ◌∷◌, Bool, true, false, not, cond, ◌||◌, eqb, Some, length, get_or, ap, sym, refl, arith}
use Rattle.std.specs.Prelude.{slice_index}
use Rattle.std.specs.List.{list_any, range_with_len, slice_get}
use Rattle.std.proofs.lemmas.Bool.{eq-eqb, eqb-true}
use Rattle.std.proofs.lemmas.Option.{get_or_from_slice_get, slice_get-get_or}
use Rattle.std.proofs.lemmas.List.{length-map}
use Rattle.std.proofs.lemmas.List.FromFn.{length-range_with_len}
use Rattle.design_model.specs.Netlist.{IsKind, IsPosition}
use Rattle.design_model.specs.declared.design.CellKind.{CellKind}
use Rattle.design_model.specs.declared.design.Position.{Position}
use Rattle.geom_extract.specs.CellTies.{first_place, first_places}
use Rattle.std_laws.proofs.Members.{all-get}
use Rattle.std_laws.proofs.Numbers.{one-more}
use Rattle.std_laws.proofs.Ranges.{image-at}

-- a position of a terminal does not stand before the first
pub first-least : (positions : List Position) (k t : ℕ) (p : Position) → slice_get positions k ≡ Some p → p.terminal ≡ t → first_place positions t ≤ k
first-least [] k t p is of = let never : ⊥ = cc in absurd never
first-least (x ∷ xs) zero t p is of =
    let same : x ≡ p = cc in
    let passes : eqb x.terminal t ≡ true = eq-eqb x.terminal t (ap (λ (q : Position). q.terminal) same ∙ of) in
    let here : first_place (x ∷ xs) t ≡ 0 = ap (λ (b : Bool). cond (not b) (1 + first_place xs t) 0) passes in
    omega arith
first-least (x ∷ xs) (suc k) t p is of = by (eqb x.terminal t) (first-least xs k t p is of)
  where
    by : (b : Bool) → first_place xs t ≤ k → cond (not b) (1 + first_place xs t) 0 ≤ suc k
    by true less = omega arith
    by false less = omega arith

-- the first position of a terminal
pub record IsFirst (positions : List Position) (t : ℕ) : Type 0 where
  pub position : Position
  pub is : slice_get positions (first_place positions t) ≡ Some position
  pub of_terminal : position.terminal ≡ t

-- it is there where some position is of the terminal
pub first-there : (positions : List Position) (t : ℕ) → list_any (λ (p : Position). eqb p.terminal t) positions ≡ true → IsFirst positions t
first-there [] t any = let never : ⊥ = cc in absurd never
first-there (x ∷ xs) t any = by (eqb x.terminal t) refl any (λ later. first-there xs t later)
  where
    by : (b : Bool) → eqb x.terminal t ≡ b → (b || list_any (λ (p : Position). eqb p.terminal t) xs) ≡ true
        → (list_any (λ (p : Position). eqb p.terminal t) xs ≡ true → IsFirst xs t) → IsFirst (x ∷ xs) t
    by true passes any more =
        let here : first_place (x ∷ xs) t ≡ 0 = ap (λ (b : Bool). cond (not b) (1 + first_place xs t) 0) passes in
        record { position = x; is = ap (slice_get (x ∷ xs)) here; of_terminal = eqb-true x.terminal t passes }
    by false fails any more =
        let later : IsFirst xs t = more any in
        let place : first_place (x ∷ xs) t ≡ suc (first_place xs t) =
        ap (λ (b : Bool). cond (not b) (1 + first_place xs t) 0) fails ∙ one-more (first_place xs t) in
        record { position = later.position; is = ap (slice_get (x ∷ xs)) place ∙ later.is; of_terminal = later.of_terminal }

pub any-of : (positions : List Position) (k t : ℕ) (p : Position) → slice_get positions k ≡ Some p → p.terminal ≡ t
    → list_any (λ (q : Position). eqb q.terminal t) positions ≡ true
any-of [] k t p is of = let never : ⊥ = cc in absurd never
any-of (x ∷ xs) zero t p is of =
    let same : x ≡ p = cc in
    let passes : eqb x.terminal t ≡ true = eq-eqb x.terminal t (ap (λ (q : Position). q.terminal) same ∙ of) in
    ap (λ (b : Bool). (b || list_any (λ (q : Position). eqb q.terminal t) xs)) passes
any-of (x ∷ xs) (suc k) t p is of = by (eqb x.terminal t) (any-of xs k t p is of)
  where
    by : (b : Bool) → list_any (λ (q : Position). eqb q.terminal t) xs ≡ true → (b || list_any (λ (q : Position). eqb q.terminal t) xs) ≡ true
    by true more = refl
    by false more = more

-- what the table of a kind says
pub first-read : (kind : CellKind) (t : ℕ) → t < length kind.terminals → slice_index (first_places kind) t ≡ first_place kind.positions t
first-read kind t within =
    get_or_from_slice_get (first_places kind) t (first_place kind.positions (0 + t)) 0 (image-at (first_place kind.positions) 0 (length kind.terminals) t within)
    ∙ ap (first_place kind.positions) (none t)
  where
    none : (n : ℕ) → 0 + n ≡ n
    none n = omega arith

pub first-long : (kind : CellKind) → length (first_places kind) ≡ length kind.terminals
first-long kind =
    length-map (range_with_len 0 (length kind.terminals)) (first_place kind.positions) ∙ length-range_with_len 0 (length kind.terminals)

-- what a table of first places says of the terminal of the position at a place
pub record FirstAt (positions : List Position) (firsts : List ℕ) (place t : ℕ) : Type 0 where
  pub within : t < length firsts
  pub reads : slice_index firsts t ≡ first_place positions t
  pub least : first_place positions t ≤ place

pub first-at : (kind : CellKind) (positions : List Position) (firsts : List ℕ) (place : ℕ) (d : Position) → IsKind kind → positions ≡ kind.positions
    → firsts ≡ first_places kind → place < length positions → FirstAt positions firsts place (get_or positions place d).terminal
first-at kind positions firsts place d good same table below =
    let p : Position = get_or positions place d in
    let here : slice_get positions place ≡ Some p = slice_get-get_or positions place d below in
    let there : slice_get kind.positions place ≡ Some p = ap (λ (l : List Position). slice_get l place) (sym same) ∙ here in
    let within : p.terminal < length kind.terminals = (all-get (IsPosition kind) kind.positions place p good.positions there).within in
    let long : length (first_places kind) ≡ length kind.terminals = first-long kind in
    let longs : length firsts ≡ length (first_places kind) = ap (λ (l : List ℕ). length l) table in
    record {
      within = omega arith;
      reads = ap (λ (l : List ℕ). slice_index l p.terminal) table ∙ first-read kind p.terminal within ∙ ap (λ (l : List Position). first_place l p.terminal) (sym same);
      least = first-least positions place p.terminal p here refl;
    }
