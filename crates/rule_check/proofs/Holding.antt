use Rattle.std.proofs.Common.{◌≡◌, ◌+◌, ℕ, List, [], ◌∷◌, Bool, true, false, ◌&&◌, ◌||◌, Option, Some, None, is_some, not, map, refl, ap, sym, ◌∙◌, cond}
use Rattle.std.specs.Prelude.{Contains, IfNone, IfSome, filter, int_le}
use Rattle.std.specs.List.{enumerate_from, list_any}
use Rattle.std.proofs.lemmas.Bool.{and_from, and_parts, false_from_ne_true}
use Rattle.std.proofs.lemmas.List.Folds.{list_any_at, list_any_none}
use Rattle.std.proofs.lemmas.List.Sorted.{list_any-IsPermutation}
use Rattle.geom_core.specs.Extent.{Extent}
use Rattle.geom_core.specs.Rectangles.{Encloses}
use Rattle.geom_core.specs.declared.layout.Shape.{Shape}
use Rattle.close_rects.specs.RectSets.{IsHeldBy, NoneIn}
use Rattle.rule_check.specs.Covers.{IsCoverOf, is_held}
use Rattle.rule_check.specs.Narrow.{encloses, is_on}
use Rattle.std_laws.proofs.Integers.{le-true, true-le}

-- the test whether a rectangle lies in another
pub encloses-true : (outer inner : Extent) → Encloses outer inner → encloses outer inner ≡ true
encloses-true outer inner within =
    and_from _ _ (and_from _ _ (le-true outer.x0 inner.x0 within.left) (le-true outer.y0 inner.y0 within.low))
    (and_from _ _ (le-true inner.x1 outer.x1 within.right) (le-true inner.y1 outer.y1 within.high))

pub true-encloses : (outer inner : Extent) → encloses outer inner ≡ true → Encloses outer inner
true-encloses outer inner is =
    let both : ((int_le outer.x0 inner.x0 && int_le outer.y0 inner.y0) ≡ true) × ((int_le inner.x1 outer.x1 && int_le inner.y1 outer.y1) ≡ true) =
    and_parts _ _ is in
    let first : (int_le outer.x0 inner.x0 ≡ true) × (int_le outer.y0 inner.y0 ≡ true) = and_parts _ _ both.0 in
    let second : (int_le inner.x1 outer.x1 ≡ true) × (int_le inner.y1 outer.y1 ≡ true) = and_parts _ _ both.1 in
    record {
      left = true-le outer.x0 inner.x0 first.0;
      low = true-le outer.y0 inner.y0 first.1;
      right = true-le inner.x1 outer.x1 second.0;
      high = true-le inner.y1 outer.y1 second.1;
    }

-- what a set answers tells whether one of its rectangles holds this one
pub is_held-answer : (rect : Extent) (rects : List (ℕ × Extent)) (o : Option ℕ) → IfSome o (IsHeldBy rect rects)
    → IfNone o (NoneIn (λ held. Encloses held rect) rects) → is_some o ≡ is_held rect rects
is_held-answer rect rects (Some number) held none =
    let among : Contains rects (number, held.holder) = held.among in
    sym (list_any_at (λ (p : ℕ × Extent). encloses p.1 rect) rects among.0 (number, held.holder) among.1
    (ap (λ (p : ℕ × Extent). encloses p.1 rect) among.2 ∙ encloses-true held.holder rect held.holds))
is_held-answer rect rects None held none =
    sym (list_any_none (λ (p : ℕ × Extent). encloses p.1 rect) rects
    (λ k d within. false_from_ne_true _ (λ is. none k d within (true-encloses _ rect is))))

any_enumerated : (rect : Extent) (n : ℕ) (rects : List Extent)
    → list_any (λ (p : ℕ × Extent). encloses p.1 rect) (enumerate_from n rects) ≡ list_any (λ held. encloses held rect) rects
any_enumerated rect n [] = refl
any_enumerated rect n (held ∷ rects) = ap (λ t. encloses held rect || t) (any_enumerated rect (n + 1) rects)

any_filtered : (rect : Extent) (layer : List ℕ) (shapes : List Shape)
    → list_any (λ held. encloses held rect) (map (λ (s : Shape). s.rect) (filter (is_on layer) shapes))
    ≡ list_any (λ (s : Shape). is_on layer s && encloses s.rect rect) shapes
any_filtered rect layer [] = refl
any_filtered rect layer (shape ∷ shapes) = cases (is_on layer shape) (any_filtered rect layer shapes)
  where
    cases : (t : Bool)
        → list_any (λ held. encloses held rect) (map (λ (s : Shape). s.rect) (filter (is_on layer) shapes))
        ≡ list_any (λ (s : Shape). is_on layer s && encloses s.rect rect) shapes
        → list_any (λ held. encloses held rect) (map (λ (s : Shape). s.rect) (cond t (shape ∷ filter (is_on layer) shapes) (filter (is_on layer) shapes)))
        ≡ ((t && encloses shape.rect rect) || list_any (λ (s : Shape). is_on layer s && encloses s.rect rect) shapes)
    cases true later = ap (λ t. encloses shape.rect rect || t) later
    cases false later = later

-- a rectangle is held by one of a layer's exactly where a shape of the layer holds it
pub is_held-cover : (layer : List ℕ) (shapes : List Shape) (rects : List (ℕ × Extent)) (rect : Extent) → IsCoverOf layer shapes rects
    → is_held rect rects ≡ list_any (λ (s : Shape). is_on layer s && encloses s.rect rect) shapes
is_held-cover layer shapes rects rect cover =
    sym (list_any-IsPermutation (λ (p : ℕ × Extent). encloses p.1 rect)
    (enumerate_from 0 (map (λ (s : Shape). s.rect) (filter (is_on layer) shapes))) rects cover)
    ∙ any_enumerated rect 0 (map (λ (s : Shape). s.rect) (filter (is_on layer) shapes))
    ∙ any_filtered rect layer shapes

-- of a cut it is told whether it lies in both
pub bare-both : (on in_horizontal in_vertical horizontal vertical both : Bool) → on ≡ true → in_horizontal ≡ horizontal → in_vertical ≡ vertical
    → both ≡ (in_horizontal && in_vertical) → not both ≡ (on && not (horizontal && vertical))
bare-both on in_horizontal in_vertical horizontal vertical both is_on first second is =
    ap not (is ∙ ap (λ t. t && in_vertical) first ∙ ap (λ t. horizontal && t) second) ∙ ap (λ t. t && not (horizontal && vertical)) (sym is_on)
