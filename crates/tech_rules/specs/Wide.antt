-- widths, and cells in rows, of a layout
use Rattle.std.specs.Prelude.{◌≡◌, ℕ, List, Contains}
use Rattle.geom_core.specs.declared.layout.Layout.{Layout}
use Rattle.geom_core.specs.declared.layout.Shape.{Shape}
use Rattle.geom_core.specs.Rectangles.{HasSides, IsSquare, Encloses, grown}
use Rattle.tech_rules.specs.Lengths.{length_in}
use Rattle.tech_rules.specs.Rules.{RuleValues}

-- a cut, with what has to enclose it, lies in one shape of this layer
pub record IsCovered (r : RuleValues) (l : Layout) (layer : List ℕ) (cut : Shape) : Type 0 where
  pub cover : Shape
  pub is_shape : Contains l.shapes cover
  pub on_layer : cover.layer ≡ layer
  pub encloses : Encloses cover.rect (grown (length_in r r.cut.enclose) cut.rect)

-- the product's own rule: each wire is as wide as its layer's rule says, and each cut is a square of the cut's size that a shape of each layer of wires encloses
pub record Wide (r : RuleValues) (l : Layout) : Type 0 where
  pub horizontal : (s : Shape) → Contains l.shapes s → s.layer ≡ r.horizontal.layer → HasSides (length_in r r.horizontal.width) s.rect
  pub vertical : (s : Shape) → Contains l.shapes s → s.layer ≡ r.vertical.layer → HasSides (length_in r r.vertical.width) s.rect
  pub cut : (s : Shape) → Contains l.shapes s → s.layer ≡ r.cut.layer → IsSquare (length_in r r.cut.size) s.rect
  pub in_horizontal : (s : Shape) → Contains l.shapes s → s.layer ≡ r.cut.layer → IsCovered r l r.horizontal.layer s
  pub in_vertical : (s : Shape) → Contains l.shapes s → s.layer ≡ r.cut.layer → IsCovered r l r.vertical.layer s
