use Rattle.std.proofs.Common.{◌≡◌, ℕ, ◌==◌, ◌<◌, ◌/◌, ◌%◌, ℤ, ◌-ℤ◌, List, [], ◌∷◌, Bool, true, false, ◌&&◌, ◌||◌, Option, Some, None, nat_lt, refl, ap, sym, ◌∙◌, subst, arith}
use Rattle.std.proofs.lemmas.Bool.Decides.{nat_tests}
use Rattle.std.specs.List.{AllByRecursion, list_any}
use Rattle.std.specs.Prelude.{int_lt, unsigned_abs, if◌then◌else◌}
use Rattle.yal_reader.specs.declared.file.Spot.{Spot}
use Rattle.netlist_core.specs.Cells.{column_of, edge_of, placed, position_of, position_onto, positions_of}
use Rattle.design_model.specs.declared.design.Position.{Position}
use Rattle.netlist_core.specs.declared.outline.Outline.{Outline}
use Rattle.std.proofs.lemmas.Option.{same_Some}

-- a column that is found is one of the columns
pub column-within : (pitch columns : ℕ) (left x : ℤ) (column : ℕ) → column_of pitch columns left x ≡ Some column → column < columns
column-within pitch columns left x column =
    by (int_lt x left) (unsigned_abs (x -ℤ left) % pitch == pitch / 2) (nat_lt (unsigned_abs (x -ℤ left) / pitch) columns) refl
  where
    below : nat_lt (unsigned_abs (x -ℤ left) / pitch) columns ≡ true → unsigned_abs (x -ℤ left) / pitch < columns
    below h = grind (arith, nat_tests)

    by : (a b c : Bool) → nat_lt (unsigned_abs (x -ℤ left) / pitch) columns ≡ c
        → (if a then None else if b && c then Some (unsigned_abs (x -ℤ left) / pitch) else None) ≡ Some column → column < columns
    by true b c is h = cc
    by false true true is h = subst (λ (n : ℕ). n < columns) (same_Some _ _ h) (below is)
    by false true false is h = cc
    by false false c is h = cc

-- a position has the terminal of its spot, and a column of the kind
pub record IsAt (columns : ℕ) (s : ℕ × Spot) (p : Position) : Type 0 where
  pub terminal : p.terminal ≡ s.0
  pub column : p.column < columns

pub position-at : (pitch : ℕ) (box : Outline) (s : ℕ × Spot) (p : Position) → position_of pitch box s ≡ Some p → IsAt (box.width / pitch) s p
position-at pitch box s p =
    by (edge_of box.height box.low s.1.y) (column_of pitch (box.width / pitch) box.left s.1.x) refl
  where
    by : (e : Option Bool) (c : Option ℕ) → column_of pitch (box.width / pitch) box.left s.1.x ≡ c → placed s.0 e c ≡ Some p → IsAt (box.width / pitch) s p
    by (Some top) (Some column) is h =
        subst (λ (q : Position). IsAt (box.width / pitch) s q) (same_Some _ _ h)
        (record { terminal = refl; column = column-within pitch (box.width / pitch) box.left s.1.x column is })
    by (Some top) None is h = cc
    by None c is h = cc

-- the first of the positions at spots, and the others
pub record IsFirst (pitch : ℕ) (box : Outline) (s : ℕ × Spot) (ss : List (ℕ × Spot)) (ps : List Position) : Type 0 where
  pub first : Position
  pub others : List Position
  pub at : IsAt (box.width / pitch) s first
  pub rest : positions_of pitch box ss ≡ Some others
  pub all : first ∷ others ≡ ps

positions-first : (pitch : ℕ) (box : Outline) (s : ℕ × Spot) (ss : List (ℕ × Spot)) (ps : List Position)
    → positions_of pitch box (s ∷ ss) ≡ Some ps → IsFirst pitch box s ss ps
positions-first pitch box s ss ps = by (position_of pitch box s) refl (positions_of pitch box ss) refl
  where
    by : (o : Option Position) → position_of pitch box s ≡ o → (rest : Option (List Position)) → positions_of pitch box ss ≡ rest
        → position_onto o rest ≡ Some ps → IsFirst pitch box s ss ps
    by (Some p) is (Some qs) are h = record { first = p; others = qs; at = position-at pitch box s p is; rest = are; all = same_Some _ _ h }
    by (Some p) is None are h = cc
    by None is rest are h = cc

-- what holds of the terminals of spots, and of each column, holds of the positions
pub positions-hold : (P : ℕ → Type 0) (pitch : ℕ) (box : Outline) (ss : List (ℕ × Spot)) (ps : List Position) → positions_of pitch box ss ≡ Some ps
    → AllByRecursion (λ (s : ℕ × Spot). P s.0) ss → AllByRecursion (λ (p : Position). P p.terminal × (p.column < box.width / pitch)) ps
positions-hold P pitch box [] ps h all =
    subst (λ (qs : List Position). AllByRecursion (λ (p : Position). P p.terminal × (p.column < box.width / pitch)) qs) (same_Some _ _ h) tt
positions-hold P pitch box (s ∷ ss) ps h all =
    let f : IsFirst pitch box s ss ps = positions-first pitch box s ss ps h in
    subst (λ (qs : List Position). AllByRecursion (λ (p : Position). P p.terminal × (p.column < box.width / pitch)) qs) f.all
    ((subst P (sym f.at.terminal) all.0, f.at.column), positions-hold P pitch box ss f.others f.rest all.1)

-- a terminal that has a spot has a position
pub positions-reach : (n pitch : ℕ) (box : Outline) (ss : List (ℕ × Spot)) (ps : List Position) → positions_of pitch box ss ≡ Some ps
    → list_any (λ (s : ℕ × Spot). s.0 == n) ss ≡ list_any (λ (p : Position). p.terminal == n) ps
positions-reach n pitch box [] ps h = ap (λ (qs : List Position). list_any (λ (p : Position). p.terminal == n) qs) (same_Some _ _ h)
positions-reach n pitch box (s ∷ ss) ps h =
    let f : IsFirst pitch box s ss ps = positions-first pitch box s ss ps h in
    ap (λ (b : Bool). (s.0 == n) || b) (positions-reach n pitch box ss f.others f.rest)
    ∙ ap (λ (k : ℕ). (k == n) || list_any (λ (p : Position). p.terminal == n) f.others) (sym f.at.terminal)
    ∙ ap (λ (qs : List Position). list_any (λ (p : Position). p.terminal == n) qs) f.all
