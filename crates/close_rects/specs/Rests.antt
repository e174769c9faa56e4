-- the close pairs of a list of rectangles in the order of a scan, and those left from a place in it on
use Rattle.std.specs.Prelude.{◌≡◌, ◌<◌, ◌+◌, ℕ, ℤ, min, max, List, [], ◌∷◌, ◌++◌, length, drop, Some, if◌then◌else◌}
use Rattle.std.specs.List.{slice_get}
use Rattle.geom_core.specs.Extent.{Extent}
use Rattle.close_rects.specs.ClosePairs.{is_close}

-- the numbers of two rectangles, the lesser first
abbrev pub pair_of : ℕ × Extent → ℕ × Extent → ℕ × ℕ
pair_of a b = (min a.0 b.0, max a.0 b.0)

-- the pairs of one rectangle with those of a list that are close to it
abbrev pub row_of : ℤ → ℕ × Extent → List (ℕ × Extent) → List (ℕ × ℕ)
row_of reach a [] = []
row_of reach a (b ∷ bs) = if is_close reach a.1 b.1 then pair_of a b ∷ row_of reach a bs else row_of reach a bs

-- the close pairs of a list: of each rectangle with those after it
abbrev pub rows_of : ℤ → List (ℕ × Extent) → List (ℕ × ℕ)
rows_of reach [] = []
rows_of reach (a ∷ rects) = row_of reach a rects ++ rows_of reach rects

-- the pairs of the first of these rectangles with the later ones alone, and then those of the others
abbrev pub rows_from : ℤ → List (ℕ × Extent) → List (ℕ × Extent) → List (ℕ × ℕ)
rows_from reach [] later = []
rows_from reach (a ∷ rects) later = row_of reach a later ++ rows_of reach rects

-- the close pairs that are left at a row and a place in it
abbrev pub rest_at : ℤ → List (ℕ × Extent) → ℕ → ℕ → List (ℕ × ℕ)
rest_at reach rects row at = rows_from reach (drop row rects) (drop at rects)

-- the rectangles at two places are the first close pair from a row and a place in it on
pub record IsNextClose (reach : ℤ) (rects : List (ℕ × Extent)) (row at : ℕ) (places : ℕ × ℕ) : Type 0 where
  pub first : places.0 < length rects
  pub second : places.1 < length rects
  pub is : (a b : ℕ × Extent) → slice_get rects places.0 ≡ Some a → slice_get rects places.1 ≡ Some b
      → rest_at reach rects row at ≡ pair_of a b ∷ rest_at reach rects places.0 (places.1 + 1)
