use Rattle.std.proofs.Common.{◌≡◌, ◌<◌, ◌+◌, ◌^◌, ◌∙◌, ◌↔◌, ℕ, List, [], ◌∷◌, ◌++◌, length, map, ap, subst, refl, arith, length-append}
use Rattle.std.specs.Prelude.{All, slice_index}
use Rattle.std.specs.List.{range_with_len}
use Rattle.std.proofs.lemmas.Option.{get_or_from_slice_get, slice_get_within}
use Rattle.std.proofs.lemmas.List.FromFn.{length-range_with_len}
use Rattle.geom_core.specs.Extent.{Extent}
use Rattle.geom_core.specs.Reach.{IsShapeInReach}
use Rattle.geom_core.specs.declared.layout.Shape.{Shape}
use Rattle.tech_rules.specs.Rules.{RuleValues, AreDifferent}
use Rattle.geom_extract.specs.Planes.{tie_at}
use Rattle.geom_extract.specs.Touching.{Connected, IsWebOf, asks_from, firsts, rect_of, seconds}
use Rattle.geom_extract.specs.Touching.Connected.{here as same_shape, step as further}
use Rattle.geom_extract.specs.Webs.{Chain, IsWeb, Web}
use Rattle.geom_extract.specs.Webs.Chain.{here, step}
use Rattle.geom_extract.proofs.WebSides.{InReach, IsWay, way-of}
use Rattle.geom_extract.proofs.WebSides.IsWay.{of_shape, of_tie, of_tie_back}
use Rattle.geom_extract.proofs.Links.{InRange, beside-linked, beside-sym, linked-beside, some-rect}
use Rattle.std_laws.proofs.TwoLists.{At}
use Rattle.std.proofs.lemmas.List.{length-map}

abbrev IsPairWithin : List Shape → ℕ × ℕ → Type 0
IsPairWithin shapes t = (t.0 < length shapes) × (t.1 < length shapes)

pub in-reach : (shapes : List Shape) → All IsShapeInReach shapes → InReach shapes
in-reach shapes all k s is =
    subst IsShapeInReach (get_or_from_slice_get shapes k s s is) (all k s (slice_get_within shapes k s is))

pub in-range : (shapes : List Shape) (ties : List (ℕ × ℕ)) → All (IsPairWithin shapes) ties → InRange shapes ties
in-range shapes ties all a b (k, within, is) =
    let P : ℕ × ℕ → Type 0 = IsPairWithin shapes in
    subst P is (all k (a, b) within)

pub asks-length : (r : RuleValues) (n : ℕ) (shapes : List Shape) → length (asks_from r n shapes) ≡ length shapes
asks-length r n [] = refl
asks-length r n (s ∷ shapes) =
    let rest : length (asks_from r (n + 1) shapes) ≡ length shapes = asks-length r (n + 1) shapes in
    omega arith

pub web-asks : (r : RuleValues) (shapes : List Shape) (ties : List (ℕ × ℕ)) (web : Web) → IsWebOf r shapes ties web
    → length web.asks ≡ length shapes
web-asks r shapes ties web of = ap length of.asks ∙ asks-length r 0 shapes

web-lengths : (r : RuleValues) (shapes : List Shape) (ties : List (ℕ × ℕ)) (web : Web) → IsWebOf r shapes ties web
    → length web.ends ≡ length web.rects
web-lengths r shapes ties web of =
    let ends : length web.ends ≡ length (range_with_len 0 (length shapes)) + (length (seconds ties) + length (firsts ties)) =
    ap length of.ends ∙ length-append (range_with_len 0 (length shapes)) (seconds ties ++ firsts ties)
    ∙ ap (λ (n : ℕ). length (range_with_len 0 (length shapes)) + n) (length-append (seconds ties) (firsts ties)) in
    let rects : length web.rects ≡ length (map (rect_of r) shapes) + (length (map tie_at (firsts ties)) + length (map tie_at (seconds ties))) =
    ap length of.rects ∙ length-append (map (rect_of r) shapes) (map tie_at (firsts ties) ++ map tie_at (seconds ties))
    ∙ ap (λ (n : ℕ). length (map (rect_of r) shapes) + n) (length-append (map tie_at (firsts ties)) (map tie_at (seconds ties))) in
    let front : length (range_with_len 0 (length shapes)) ≡ length shapes = length-range_with_len 0 (length shapes) in
    let images : length (map (rect_of r) shapes) ≡ length shapes = length-map shapes (rect_of r) in
    let one : length (map tie_at (firsts ties)) ≡ length (firsts ties) = length-map (firsts ties) tie_at in
    let two : length (map tie_at (seconds ties)) ≡ length (seconds ties) = length-map (seconds ties) tie_at in
    omega arith

way-within : (r : RuleValues) (shapes : List Shape) (ties : List (ℕ × ℕ)) (rect : Extent) (y : ℕ) → InRange shapes ties
    → IsWay r shapes ties rect y → y < length shapes
way-within r shapes ties rect y range (of_shape s is same) = slice_get_within shapes y s is
way-within r shapes ties rect y range (of_tie a among same) = (range a y among).1
way-within r shapes ties rect y range (of_tie_back a among same) = (range y a among).0

pub shape-web : (r : RuleValues) (shapes : List Shape) (ties : List (ℕ × ℕ)) (web : Web) → IsWebOf r shapes ties web → AreDifferent r
    → InReach shapes → InRange shapes ties → length shapes < 2 ^ 32 → length web.rects < 2 ^ 32 → IsWeb web
shape-web r shapes ties web of apart reach range few few_rects =
    let asks : length web.asks ≡ length shapes = web-asks r shapes ties web of in
    let lengths : length web.ends ≡ length web.rects = web-lengths r shapes ties web of in
    record {
      few = few_rects;
      few_shapes = omega arith;
      lengths = lengths;
      ends = λ number y is.
          let within : number < length web.ends = slice_get_within web.ends number y is in
          let found = some-rect web.rects number (omega arith) in
          let at : At web.rects web.ends found.0 y = record { place = number; first = found.1; second = is } in
          let inside : y < length shapes = way-within r shapes ties found.0 y range (way-of r shapes ties web found.0 y of at) in
          omega arith;
      both_ways = λ x y link. beside-linked r shapes ties web of reach y x apart range
          (beside-sym r shapes ties x y (linked-beside r shapes ties web of reach x y link));
    }

pub chain-connected : (r : RuleValues) (shapes : List Shape) (ties : List (ℕ × ℕ)) (web : Web) → IsWebOf r shapes ties web → InReach shapes
    → (x y : ℕ) → Chain web x y → Connected r shapes ties x y
chain-connected r shapes ties web of reach x y here = same_shape
chain-connected r shapes ties web of reach x y (step z chain link) =
    further z (chain-connected r shapes ties web of reach x _ chain) (linked-beside r shapes ties web of reach _ z link)

pub connected-chain : (r : RuleValues) (shapes : List Shape) (ties : List (ℕ × ℕ)) (web : Web) → IsWebOf r shapes ties web → InReach shapes
    → AreDifferent r → InRange shapes ties → (x y : ℕ) → Connected r shapes ties x y → Chain web x y
connected-chain r shapes ties web of reach apart range x y same_shape = here
connected-chain r shapes ties web of reach apart range x y (further z chain beside) =
    step z (connected-chain r shapes ties web of reach apart range x _ chain) (beside-linked r shapes ties web of reach _ z apart range beside)

pub classes-connected : (r : RuleValues) (shapes : List Shape) (ties : List (ℕ × ℕ)) (web : Web) (classes : List ℕ) → IsWebOf r shapes ties web
    → InReach shapes → AreDifferent r → InRange shapes ties
    → ((x y : ℕ) → x < length classes → y < length classes → (slice_index classes x ≡ slice_index classes y) ↔ Chain web x y)
    → (x y : ℕ) → x < length classes → y < length classes → (slice_index classes x ≡ slice_index classes y) ↔ Connected r shapes ties x y
classes-connected r shapes ties web classes of reach apart range exact x y first second = (
  λ same. chain-connected r shapes ties web of reach x y ((exact x y first second).0 same),
  λ chain. (exact x y first second).1 (connected-chain r shapes ties web of reach apart range x y chain),
)
