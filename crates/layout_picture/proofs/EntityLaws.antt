use Rattle.std.proofs.Common.{◌≡◌, ◌∷◌, ◌∙◌, ◌==◌, ◌&&◌, ℕ, List, [], true, nat_le, refl}
use Rattle.std.proofs.lemmas.List.Folds.{list_all-append}
use Rattle.std.specs.List.{list_all}
use Rattle.note_text.specs.Shown.{shown}
use Rattle.marker_text.specs.Escaped.{is_plain}
use Rattle.marker_text.proofs.PlainLaws.{both-true, first-true, itself-plain, of-choice, second-true}
use Rattle.layout_picture.specs.Entities.{entities, entity}

entity-plain : (c : ℕ) → nat_le 32 c ≡ true → nat_le c 126 ≡ true → list_all is_plain (entity c) ≡ true
entity-plain c low high =
    let P = λ (text : List ℕ). list_all is_plain text ≡ true in
    of-choice P (c == 34) _ _ (λ _. refl) (λ double.
    of-choice P (c == 38) _ _ (λ _. refl) (λ _.
    of-choice P (c == 39) _ _ (λ _. refl) (λ single.
    of-choice P (c == 60) _ _ (λ _. refl) (λ less.
    of-choice P (c == 62) _ _ (λ _. refl) (λ greater. itself-plain c low high double single less greater)))))

shown-plain : (byte : ℕ) → list_all is_plain (entity (shown byte)) ≡ true
shown-plain byte =
    let P = λ (c : ℕ). list_all is_plain (entity c) ≡ true in
    of-choice P (byte == 9) _ _ (λ _. refl) (λ _.
    of-choice P (nat_le 32 byte && nat_le byte 126) _ _
    (λ shows. entity-plain byte (first-true (nat_le 32 byte) (nat_le byte 126) shows) (second-true (nat_le 32 byte) (nat_le byte 126) shows))
    (λ _. refl))

-- names as text of XML are plain characters
pub entities-plain : (bytes : List ℕ) → list_all is_plain (entities bytes) ≡ true
unfolding entities
entities-plain [] = refl
entities-plain (byte ∷ more) =
    list_all-append is_plain (entity (shown byte)) (entities more)
    ∙ both-true (list_all is_plain (entity (shown byte))) (list_all is_plain (entities more)) (shown-plain byte) (entities-plain more)
