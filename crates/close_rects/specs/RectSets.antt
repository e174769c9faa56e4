-- taking out of a set of rectangles
use Rattle.std.specs.Prelude.{◌≡◌, ℕ, List, ◌∷◌, ◌++◌, All, Contains}
use Rattle.geom_core.specs.Extent.{Extent}
use Rattle.geom_core.specs.Rectangles.{Encloses, Meet}

-- of the numbered rectangles one that shares a point with this one is taken out, and its number given
pub record Takes (rect : Extent) (number : ℕ) (before after : List (ℕ × Extent)) : Type 0 where
  pub front : List (ℕ × Extent)
  pub taken : Extent
  pub back : List (ℕ × Extent)
  pub from : before ≡ front ++ (number, taken) ∷ back
  pub left : after ≡ front ++ back
  pub meets : Meet rect taken

-- none of the numbered rectangles is such
abbrev pub NoneIn : (Extent → Type 0) → List (ℕ × Extent) → Type 0
NoneIn IsSuch rects = All (λ p. ¬ IsSuch p.1) rects

-- among the numbered rectangles one of this number holds this one
pub record IsHeldBy (rect : Extent) (rects : List (ℕ × Extent)) (number : ℕ) : Type 0 where
  pub holder : Extent
  pub among : Contains rects (number, holder)
  pub holds : Encloses holder rect
