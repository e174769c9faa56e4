-- nets as equal signal words
use Rattle.std.specs.Prelude.{◌≡◌, ◌↔◌, ℕ, List, Option, Some, slice_get}
use Rattle.design_model.specs.declared.design.Pin.{Pin}

-- two pins are in one net exactly where their signal words are equal; `word_of` gives a pin its word
abbrev pub SameNet : (Pin → Option (List ℕ)) → List Pin → Type 0
SameNet word_of pins = (p q : ℕ) (a b : Pin) → slice_get pins p ≡ Some a → slice_get pins q ≡ Some b → (a.net ≡ b.net) ↔ (word_of a ≡ word_of b)
