use Rattle.std.proofs.Common.{◌≡◌, ◌∙◌, ◌++◌, ◌∷◌, ℕ, List, [], ap, append_assoc, refl, sym}
use Rattle.std.proofs.lemmas.List.{append-nil}
use Rattle.geom_core.specs.Extent.{Extent}
use Rattle.marker_text.specs.Boxes.{box_text}
use Rattle.finding_markers.specs.Markers.{boxes_text}

-- the boxes of two lists of places are those of the one and then those of the other
pub boxes-both : (one two : List Extent) → boxes_text (one ++ two) ≡ boxes_text one ++ boxes_text two
boxes-both [] two = refl
boxes-both (e ∷ es) two = ap (λ (t : List ℕ). box_text e ++ t) (boxes-both es two) ∙ sym (append_assoc (box_text e) (boxes_text es) (boxes_text two))

-- the boxes of one place are its box
pub boxes-one : (e : Extent) → boxes_text (e ∷ []) ≡ box_text e
boxes-one e = append-nil (box_text e)
