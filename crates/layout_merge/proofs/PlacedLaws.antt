use Rattle.std.proofs.Common.{◌≡◌, ◌∙◌, ℕ, ◌+◌, List, [], ◌∷◌, ◌++◌, append_assoc, Bool, true, false, filter, length, length-append, ap, ap₂, refl, sym, subst}
use Rattle.std.specs.List.{flat_map}
use Rattle.geom_core.specs.declared.layout.Cell.{Cell}
use Rattle.geom_core.specs.declared.layout.Shape.{Shape}
use Rattle.layout_merge.specs.MergedLayout.{placed}

-- a filter over one item more
pub filter-kept : {X : Type 0} (p : X → Bool) (x : X) (xs : List X) → p x ≡ true → filter p (x ∷ xs) ≡ x ∷ filter p xs
filter-kept p x xs is = rw is refl

pub filter-left : {X : Type 0} (p : X → Bool) (x : X) (xs : List X) → p x ≡ false → filter p (x ∷ xs) ≡ filter p xs
filter-left p x xs is = rw is refl

module _ (shapes : Cell → List Shape) (known : Cell → Bool) (c : Cell) (rest later : List Cell) (is : rest ≡ c ∷ later) where
  -- a cell more, with its shapes
  pub placed-on : (cells new : List Cell) (before after : List Shape) (all : List Cell) → known c ≡ true → after ≡ before ++ shapes c
      → new ≡ cells ++ (record c { first = length before; count = length (shapes c) } ∷ [])
      → cells ++ placed shapes (length before) (filter known rest) ≡ all → new ++ placed shapes (length after) (filter known later) ≡ all
  placed-on cells new before after all kept long more was =
      let count = ap length long ∙ length-append before (shapes c) in
      ap (λ (l : List Cell). l ++ placed shapes (length after) (filter known later)) more
      ∙ append_assoc cells (record c { first = length before; count = length (shapes c) } ∷ []) (placed shapes (length after) (filter known later))
      ∙ ap (λ (n : ℕ). cells ++ (record c { first = length before; count = length (shapes c) } ∷ placed shapes n (filter known later))) count
      ∙ ap (λ (l : List Cell). cells ++ placed shapes (length before) l) (sym (ap (filter known) is ∙ filter-kept known c later kept)) ∙ was

  pub shapes-on : (before after all : List Shape) → known c ≡ true → after ≡ before ++ shapes c → before ++ flat_map shapes (filter known rest) ≡ all
      → after ++ flat_map shapes (filter known later) ≡ all
  shapes-on before after all kept long was =
      ap (λ (l : List Shape). l ++ flat_map shapes (filter known later)) long ∙ append_assoc before (shapes c) (flat_map shapes (filter known later))
      ∙ ap (λ (l : List Cell). before ++ flat_map shapes l) (sym (ap (filter known) is ∙ filter-kept known c later kept)) ∙ was

  -- or none
  pub left-on : {X : Type 0} (f : List Cell → X) (all : X) → known c ≡ false → f (filter known rest) ≡ all → f (filter known later) ≡ all
  left-on f all out was = ap f (sym (ap (filter known) is ∙ filter-left known c later out)) ∙ was
