use Rattle.std.proofs.Common.{◌≡◌, ◌+◌, ◌∙◌, ℕ, zero, suc, List, [], ◌∷◌, ◌++◌, Some, length, map, ap, sym, subst, refl, inl, inr, arith}
use Rattle.std.specs.Prelude.{Contains}
use Rattle.std.specs.List.{slice_get, range_with_len}
use Rattle.std.proofs.lemmas.List.FromFn.{length-range_with_len}
use Rattle.geom_core.specs.Extent.{Extent}
use Rattle.geom_core.specs.Reach.{IsExtentInReach}
use Rattle.geom_core.specs.Rectangles.{Meet}
use Rattle.geom_core.specs.declared.layout.Shape.{Shape}
use Rattle.tech_rules.specs.Rules.{RuleValues}
use Rattle.geom_extract.specs.Planes.{plane_of, tie_at}
use Rattle.geom_extract.specs.Touching.{IsWebOf, asks_from, firsts, rect_of, seconds}
use Rattle.geom_extract.specs.Asking.{asks_of}
use Rattle.geom_extract.specs.Webs.{Leads, Web}
use Rattle.geom_extract.specs.declared.asker.Asks.{Asks}
use Rattle.std_laws.proofs.TwoLists.{At, At-append, At-images, At-left, At-numbered, At-right, images-At, numbered-At}
use Rattle.std.proofs.lemmas.List.{length-map}

abbrev pub InReach : List Shape → Type 0
InReach shapes = (k : ℕ) (s : Shape) → slice_get shapes k ≡ Some s → IsExtentInReach s.rect

-- a rectangle that leads to a shape is its own in its plane, or the place of a shape to which it is tied
pub data IsWay (r : RuleValues) (shapes : List Shape) (ties : List (ℕ × ℕ)) (rect : Extent) (y : ℕ) : Type 0 where
  of_shape : (s : Shape) → slice_get shapes y ≡ Some s → rect_of r s ≡ rect → IsWay r shapes ties rect y
  of_tie : (a : ℕ) → Contains ties (a, y) → tie_at a ≡ rect → IsWay r shapes ties rect y
  of_tie_back : (a : ℕ) → Contains ties (y, a) → tie_at a ≡ rect → IsWay r shapes ties rect y

fronts-equal : (r : RuleValues) (shapes : List Shape) → length (map (rect_of r) shapes) ≡ length (range_with_len 0 (length shapes))
fronts-equal r shapes = length-map shapes (rect_of r) ∙ sym (length-range_with_len 0 (length shapes))

abbrev first_of : ℕ × ℕ → ℕ
first_of t = t.0

abbrev second_of : ℕ × ℕ → ℕ
second_of t = t.1

map-map : (f : ℕ × ℕ → ℕ) (ties : List (ℕ × ℕ)) → map tie_at (map f ties) ≡ map (λ (t : ℕ × ℕ). tie_at (f t)) ties
map-map f [] = refl
map-map f (t ∷ ties) = ap (λ rest. tie_at (f t) ∷ rest) (map-map f ties)

tie-sides : (ties : List (ℕ × ℕ)) (f g : ℕ × ℕ → ℕ) (rect : Extent) (y : ℕ) → At (map tie_at (map f ties)) (map g ties) rect y
    → (t : ℕ × ℕ) × Contains ties t × (tie_at (f t) ≡ rect) × (g t ≡ y)
tie-sides ties f g rect y at =
    At-images (λ (t : ℕ × ℕ). tie_at (f t)) g ties rect y (subst (λ (l : List Extent). At l (map g ties) rect y) (map-map f ties) at)

sides-tie : (ties : List (ℕ × ℕ)) (f g : ℕ × ℕ → ℕ) (t : ℕ × ℕ) → Contains ties t → At (map tie_at (map f ties)) (map g ties) (tie_at (f t)) (g t)
sides-tie ties f g t among = subst (λ (l : List Extent). At l (map g ties) (tie_at (f t)) (g t)) (sym (map-map f ties))
    (images-At (λ (u : ℕ × ℕ). tie_at (f u)) g ties t among)

ties-equal : (ties : List (ℕ × ℕ)) → length (map tie_at (firsts ties)) ≡ length (seconds ties)
ties-equal ties = length-map (firsts ties) tie_at ∙ length-map ties first_of ∙ sym (length-map ties second_of)

pub way-of : (r : RuleValues) (shapes : List Shape) (ties : List (ℕ × ℕ)) (web : Web) (rect : Extent) (y : ℕ) → IsWebOf r shapes ties web
    → At web.rects web.ends rect y → IsWay r shapes ties rect y
way-of r shapes ties web rect y of at =
    let whole : At (map (rect_of r) shapes ++ (map tie_at (firsts ties) ++ map tie_at (seconds ties)))
    (range_with_len 0 (length shapes) ++ (seconds ties ++ firsts ties)) rect y = rw (← of.rects, ← of.ends) at in
    elim (At-append _ _ _ _ rect y (fronts-equal r shapes) whole) [
      | inl front ↦
          let found = At-numbered (rect_of r) 0 shapes rect y front in
          let place : found.1 ≡ y = omega (arith, found.2) in
          of_shape found.0 (subst (λ (k : ℕ). slice_get shapes k ≡ Some found.0) place found.3) found.4
      | inr back ↦ elim (At-append _ _ _ _ rect y (ties-equal ties) back) [
        | inl one ↦
            let found = tie-sides ties first_of second_of rect y one in
            of_tie found.0.0 (subst (λ (k : ℕ). Contains ties (found.0.0, k)) found.3 found.1) found.2
        | inr two ↦
            let found = tie-sides ties second_of first_of rect y two in
            of_tie_back found.0.1 (subst (λ (k : ℕ). Contains ties (k, found.0.1)) found.3 found.1) found.2
      ]
    ]

whole-at : (r : RuleValues) (shapes : List Shape) (ties : List (ℕ × ℕ)) (web : Web) (rect : Extent) (y : ℕ) → IsWebOf r shapes ties web
    → At (map (rect_of r) shapes ++ (map tie_at (firsts ties) ++ map tie_at (seconds ties)))
    (range_with_len 0 (length shapes) ++ (seconds ties ++ firsts ties)) rect y → At web.rects web.ends rect y
whole-at r shapes ties web rect y of at = rw (of.rects, of.ends) at

pub shape-at : (r : RuleValues) (shapes : List Shape) (ties : List (ℕ × ℕ)) (web : Web) (y : ℕ) (s : Shape) → IsWebOf r shapes ties web
    → slice_get shapes y ≡ Some s → At web.rects web.ends (rect_of r s) y
shape-at r shapes ties web y s of is =
    let zero_more : 0 + y ≡ y = omega arith in
    whole-at r shapes ties web (rect_of r s) y of
    (At-left (map (rect_of r) shapes) _ (range_with_len 0 (length shapes)) _ (rect_of r s) y
    (subst (λ (k : ℕ). At (map (rect_of r) shapes) (range_with_len 0 (length shapes)) (rect_of r s) k) zero_more (numbered-At (rect_of r) 0 shapes y s is)))

pub tie-at : (r : RuleValues) (shapes : List Shape) (ties : List (ℕ × ℕ)) (web : Web) (a b : ℕ) → IsWebOf r shapes ties web
    → Contains ties (a, b) → At web.rects web.ends (tie_at a) b × At web.rects web.ends (tie_at b) a
tie-at r shapes ties web a b of among = (
  whole-at r shapes ties web (tie_at a) b of (At-right _ _ _ _ (tie_at a) b (fronts-equal r shapes)
      (At-left (map tie_at (firsts ties)) _ (seconds ties) _ (tie_at a) b (sides-tie ties first_of second_of (a, b) among))),
  whole-at r shapes ties web (tie_at b) a of (At-right _ _ _ _ (tie_at b) a (fronts-equal r shapes)
      (At-right (map tie_at (firsts ties)) _ (seconds ties) _ (tie_at b) a (ties-equal ties) (sides-tie ties second_of first_of (a, b) among))),
)

pub leads-at : (web : Web) (ask rect : Extent) (y : ℕ) → At web.rects web.ends rect y → Meet ask rect → Leads web ask y
leads-at web ask rect y at met = record { number = at.place; rect = rect; is_rect = at.first; is_end = at.second; meets = met }

pub at-leads : (web : Web) (ask : Extent) (y : ℕ) (leads : Leads web ask y) → At web.rects web.ends leads.rect y
at-leads web ask y leads = record { place = leads.number; first = leads.is_rect; second = leads.is_end }

-- the asks of a shape
pub asks-at : (r : RuleValues) (n x : ℕ) (shapes : List Shape) (s : Shape) → slice_get shapes x ≡ Some s
    → slice_get (asks_from r n shapes) x ≡ Some (asks_of (plane_of r s.layer) s.rect (n + x))
asks-at r n x [] s is = let never : ⊥ = cc in absurd never
asks-at r n zero (t ∷ shapes) s is =
    let same : t ≡ s = cc in
    let more : n ≡ n + 0 = omega arith in
    ap (λ (u : Shape). Some (asks_of (plane_of r u.layer) u.rect n)) same ∙ ap (λ (k : ℕ). Some (asks_of (plane_of r s.layer) s.rect k)) more
asks-at r n (suc x) (t ∷ shapes) s is =
    let step : n + 1 + x ≡ n + suc x = omega arith in
    asks-at r (n + 1) x shapes s is ∙ ap (λ (k : ℕ). Some (asks_of (plane_of r s.layer) s.rect k)) step

pub asks-shape : (r : RuleValues) (n x : ℕ) (shapes : List Shape) (asks : Asks) → slice_get (asks_from r n shapes) x ≡ Some asks
    → (s : Shape) × (slice_get shapes x ≡ Some s)
asks-shape r n x [] asks is = let never : ⊥ = cc in absurd never
asks-shape r n zero (t ∷ shapes) asks is = (t, refl)
asks-shape r n (suc x) (t ∷ shapes) asks is = asks-shape r (n + 1) x shapes asks is
