use Rattle.std.proofs.Common.{◌≡◌, ℕ, zero, suc, ◌==◌, List, [], ◌∷◌, ◌++◌, Bool, true, false, ◌&&◌, Some, refl, ap, sym, ◌∙◌, subst, eq-eqb}
use Rattle.std.proofs.lemmas.List.Folds.{list_any-append}
use Rattle.std.specs.List.{list_any, slice_get}
use Rattle.netlist_core.specs.Cells.{clashes, point_of, same_point, same_top}
use Rattle.design_model.specs.declared.design.Position.{Position}
use Rattle.netlist_core.specs.declared.positions.Point.{Point}
use Rattle.std.proofs.lemmas.Option.{same_Some}
use Rattle.std_laws.proofs.Tests.{or-first-false, or-second-false}

same-point : (p q : Position) → p.top ≡ q.top → p.column ≡ q.column → same_point (point_of q) (point_of p) ≡ true
same-point p q top column = both (same_top q.top p.top) (q.column == p.column) (same_side q.top p.top (sym top)) (eq-eqb q.column p.column (sym column))
  where
    both : (a b : Bool) → a ≡ true → b ≡ true → (a && b) ≡ true
    both a b ha hb = ap (λ (c : Bool). c && b) ha ∙ hb

    same_side : (a b : Bool) → a ≡ b → same_top a b ≡ true
    same_side true true h = refl
    same_side false false h = refl
    same_side true false h = cc
    same_side false true h = cc

-- without a clash no later position shares a point with an earlier one
fresh : (earlier : List Point) (ps : List Position) (j : ℕ) (q : Position) → clashes earlier ps ≡ false → slice_get ps j ≡ Some q
    → list_any (same_point (point_of q)) earlier ≡ false
fresh earlier [] j q free h = cc
fresh earlier (p ∷ ps) zero q free h =
    subst (λ (r : Position). list_any (same_point (point_of r)) earlier ≡ false) (same_Some _ _ h)
    (or-first-false (list_any (same_point (point_of p)) earlier) (clashes (earlier ++ point_of p ∷ []) ps) free)
fresh earlier (p ∷ ps) (suc j) q free h =
    or-first-false (list_any (same_point (point_of q)) earlier) (list_any (same_point (point_of q)) (point_of p ∷ []))
    (sym (list_any-append (same_point (point_of q)) earlier (point_of p ∷ []))
    ∙ fresh (earlier ++ point_of p ∷ []) ps j q (or-second-false (list_any (same_point (point_of p)) earlier) (clashes (earlier ++ point_of p ∷ []) ps) free) h)

-- and none shares one with the first
not-first : (earlier : List Point) (p : Position) (ps : List Position) (j : ℕ) (q : Position)
    → clashes earlier (p ∷ ps) ≡ false → slice_get ps j ≡ Some q → p.top ≡ q.top → p.column ≡ q.column → ⊥
not-first earlier p ps j q free h top column = absurd-of (same-point p q top column) other
  where
    absurd-of : {b : Bool} → b ≡ true → b ≡ false → ⊥
    absurd-of is differs = cc

    other : same_point (point_of q) (point_of p) ≡ false
    other =
        or-first-false (same_point (point_of q) (point_of p)) false
        (or-second-false (list_any (same_point (point_of q)) earlier) (list_any (same_point (point_of q)) (point_of p ∷ []))
        (sym (list_any-append (same_point (point_of q)) earlier (point_of p ∷ []))
        ∙ fresh (earlier ++ point_of p ∷ []) ps j q (or-second-false (list_any (same_point (point_of p)) earlier) (clashes (earlier ++ point_of p ∷ []) ps) free) h))

-- without a clash positions at one side and column are one
pub clash-free : (earlier : List Point) (ps : List Position) → clashes earlier ps ≡ false → (i j : ℕ) (p q : Position)
    → slice_get ps i ≡ Some p → slice_get ps j ≡ Some q → p.top ≡ q.top → p.column ≡ q.column → i ≡ j
clash-free earlier [] free i j p q at_i at_j top column = cc
clash-free earlier (x ∷ xs) free zero zero p q at_i at_j top column = refl
clash-free earlier (x ∷ xs) free zero (suc j) p q at_i at_j top column =
    absurd (not-first earlier x xs j q free at_j
    (ap (λ (r : Position). r.top) (same_Some _ _ at_i) ∙ top) (ap (λ (r : Position). r.column) (same_Some _ _ at_i) ∙ column))
clash-free earlier (x ∷ xs) free (suc i) zero p q at_i at_j top column =
    absurd (not-first earlier x xs i p free at_i
    (ap (λ (r : Position). r.top) (same_Some _ _ at_j) ∙ sym top) (ap (λ (r : Position). r.column) (same_Some _ _ at_j) ∙ sym column))
clash-free earlier (x ∷ xs) free (suc i) (suc j) p q at_i at_j top column =
    ap (λ (n : ℕ). suc n)
    (clash-free (earlier ++ point_of x ∷ []) xs (or-second-false (list_any (same_point (point_of x)) earlier) (clashes (earlier ++ point_of x ∷ []) xs) free)
    i j p q at_i at_j top column)
