-- shapes that touch or are tied, and their web
use Rattle.std.specs.Prelude.{◌≡◌, ℕ, ◌+◌, List, [], ◌∷◌, ◌++◌, map, length, Some, slice_get, Contains}
use Rattle.std.specs.List.{range_with_len}
use Rattle.geom_core.specs.Extent.{Extent}
use Rattle.geom_core.specs.declared.layout.Shape.{Shape}
use Rattle.tech_rules.specs.Rules.{RuleValues}
use Rattle.design_model.specs.Joined.{Touch}
use Rattle.geom_extract.specs.Asking.{asks_of}
use Rattle.geom_extract.specs.Planes.{plane_of, raised, tie_at}
use Rattle.geom_extract.specs.declared.asker.Asks.{Asks}
use Rattle.geom_extract.specs.Webs.{Web}

-- shapes, some pairs of which are tied, and the rules of their layers
pub record Tied : Type 0 where
  pub rules : RuleValues
  pub shapes : List Shape
  pub ties : List (ℕ × ℕ)

-- two shapes touch, or they are tied
pub data Beside (r : RuleValues) (shapes : List Shape) (ties : List (ℕ × ℕ)) (i j : ℕ) : Type 0 where
  touching : (s t : Shape) → slice_get shapes i ≡ Some s → slice_get shapes j ≡ Some t → Touch r s t → Beside r shapes ties i j
  tied : Contains ties (i, j) → Beside r shapes ties i j
  tied_back : Contains ties (j, i) → Beside r shapes ties i j

-- two shapes are the same, or a chain leads from one to the other in which each is beside the next
pub data Connected (r : RuleValues) (shapes : List Shape) (ties : List (ℕ × ℕ)) (from : ℕ) : ℕ → Type 0 where
  here : Connected r shapes ties from from
  step : {x : ℕ} (y : ℕ) → Connected r shapes ties from x → Beside r shapes ties x y → Connected r shapes ties from y

-- a shape's rectangle in the plane of its layer
abbrev pub rect_of : RuleValues → Shape → Extent
rect_of r s = raised (plane_of r s.layer) s.rect

abbrev pub asks_from : RuleValues → ℕ → List Shape → List Asks
asks_from r n [] = []
asks_from r n (s ∷ shapes) = asks_of (plane_of r s.layer) s.rect n ∷ asks_from r (n + 1) shapes

abbrev pub firsts : List (ℕ × ℕ) → List ℕ
firsts ties = map (λ (t : ℕ × ℕ). t.0) ties

abbrev pub seconds : List (ℕ × ℕ) → List ℕ
seconds ties = map (λ (t : ℕ × ℕ). t.1) ties

-- the web of shapes and ties: each shape is led to by its rectangle, and each of two that are tied by the other's place among ties
pub record IsWebOf (r : RuleValues) (shapes : List Shape) (ties : List (ℕ × ℕ)) (web : Web) : Type 0 where
  pub rects : web.rects ≡ map (rect_of r) shapes ++ (map tie_at (firsts ties) ++ map tie_at (seconds ties))
  pub ends : web.ends ≡ range_with_len 0 (length shapes) ++ (seconds ties ++ firsts ties)
  pub asks : web.asks ≡ asks_from r 0 shapes
