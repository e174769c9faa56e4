use Rattle.std.proofs.Common.{◌≡◌, refl, ℕ, List, [], ◌∷◌, length, None, arith}
use Rattle.geom_core.specs.declared.layout.Shape.{Shape}
use Rattle.label_reader.specs.declared.labels.PlacedName.{PlacedName}
use Rattle.label_reader.specs.Naming.{label_on}

none-on : (outline : List ℕ) (labels : List PlacedName) → label_on outline labels [] ≡ None
none-on outline [] = refl
none-on outline (label ∷ labels) = none-on outline labels

-- no label lies in nothing
pub nothing-on : (outline : List ℕ) (labels : List PlacedName) (shapes : List Shape) → length shapes ≡ 0 → label_on outline labels shapes ≡ None
nothing-on outline labels [] none = none-on outline labels
nothing-on outline labels (s ∷ ss) none = absurd (omega arith)
