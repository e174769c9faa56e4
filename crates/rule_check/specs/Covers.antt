-- the rectangles of a layer's shapes, and whether one holds a given one
use Rattle.std.specs.Prelude.{ℕ, List, Bool, map, filter}
use Rattle.std.specs.List.{enumerate_from, list_any}
use Rattle.std.specs.List.Sorted.{IsPermutation}
use Rattle.geom_core.specs.Extent.{Extent}
use Rattle.geom_core.specs.declared.layout.Shape.{Shape}
use Rattle.rule_check.specs.Narrow.{encloses, is_on}

-- numbered rectangles that are those of the shapes of a layer, in any order
abbrev pub IsCoverOf : List ℕ → List Shape → List (ℕ × Extent) → Type 0
IsCoverOf layer shapes rects = IsPermutation (enumerate_from 0 (map (λ s. s.rect) (filter (is_on layer) shapes))) rects

-- whether one of these rectangles holds this one
abbrev pub is_held : Extent → List (ℕ × Extent) → Bool
is_held rect rects = list_any (λ (held : ℕ × Extent). encloses held.1 rect) rects
