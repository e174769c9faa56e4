use Rattle.std.proofs.Common.{◌≡◌, ◌∷◌, ◌++◌, ◌∙◌, ◌==◌, ◌&&◌, ℕ, List, [], Bool, true, false, ap, cond, nat_le, not, refl}
use Rattle.std.proofs.lemmas.List.Folds.{list_all-append}
use Rattle.std.specs.List.{list_all}
use Rattle.note_text.specs.Shown.{shown}
use Rattle.marker_text.specs.Escaped.{escaped, is_plain, quoted}

-- what holds of both choices holds of the choice
pub of-choice : {X : Type 0} (P : X → Type 0) (b : Bool) (x y : X) → (b ≡ true → P x) → (b ≡ false → P y) → P (cond b x y)
of-choice P true x y first second = first refl
of-choice P false x y first second = second refl

pub first-true : (a b : Bool) → (a && b) ≡ true → a ≡ true
first-true true b is = refl
first-true false b is = is

pub second-true : (a b : Bool) → (a && b) ≡ true → b ≡ true
second-true true b is = is
second-true false b is = cc

-- a character that shows, and is none of those that have a meaning
pub itself-plain : (c : ℕ) → nat_le 32 c ≡ true → nat_le c 126 ≡ true → (c == 34) ≡ false → (c == 39) ≡ false → (c == 60) ≡ false → (c == 62) ≡ false
    → list_all is_plain (c ∷ []) ≡ true
itself-plain c low high double single less greater = rw (low, high, double, single, less, greater) refl

quoted-plain : (c : ℕ) → nat_le 32 c ≡ true → nat_le c 126 ≡ true → list_all is_plain (quoted c) ≡ true
quoted-plain c low high =
    let P = λ (text : List ℕ). list_all is_plain text ≡ true in
    of-choice P (c == 34) _ _ (λ _. refl) (λ double.
    of-choice P (c == 38) _ _ (λ _. refl) (λ _.
    of-choice P (c == 39) _ _ (λ _. refl) (λ single.
    of-choice P (c == 60) _ _ (λ _. refl) (λ less.
    of-choice P (c == 62) _ _ (λ _. refl) (λ greater.
    of-choice P (c == 92) _ _ (λ _. refl) (λ _. itself-plain c low high double single less greater))))))

shown-plain : (byte : ℕ) → list_all is_plain (quoted (shown byte)) ≡ true
shown-plain byte =
    let P = λ (c : ℕ). list_all is_plain (quoted c) ≡ true in
    of-choice P (byte == 9) _ _ (λ _. refl) (λ _.
    of-choice P (nat_le 32 byte && nat_le byte 126) _ _
    (λ shows. quoted-plain byte (first-true (nat_le 32 byte) (nat_le byte 126) shows) (second-true (nat_le 32 byte) (nat_le byte 126) shows))
    (λ _. refl))

pub both-true : (a b : Bool) → a ≡ true → b ≡ true → (a && b) ≡ true
both-true a b one two = ap (λ x. x && b) one ∙ two

-- what is escaped are plain characters
pub escaped-plain : (bytes : List ℕ) → list_all is_plain (escaped bytes) ≡ true
unfolding escaped
escaped-plain [] = refl
escaped-plain (byte ∷ more) =
    list_all-append is_plain (quoted (shown byte)) (escaped more)
    ∙ both-true (list_all is_plain (quoted (shown byte))) (list_all is_plain (escaped more)) (shown-plain byte) (escaped-plain more)
