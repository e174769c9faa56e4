-- what the rectangles of a wiring that connects its channel keep: widths, spaces, the columns, the channel's edges, and contact
use Rattle.std.specs.Prelude.{◌≡◌, ℕ, List, Contains}
use Rattle.geom_core.specs.Rectangles.{HasSides, IsSquare, Encloses, grown}
use Rattle.tech_rules.specs.Lengths.{length_in}
use Rattle.tech_rules.specs.Rules.{RuleValues}
use Rattle.wire_geom.specs.declared.drawn.Drawn.{Drawn}

-- a cut, with what has to enclose it, lies in one rectangle of its net on this layer
pub record IsCovered (r : RuleValues) (drawn : List Drawn) (layer : List ℕ) (cut : Drawn) : Type 0 where
  pub cover : Drawn
  pub is_drawn : Contains drawn cover
  pub on_layer : cover.shape.layer ≡ layer
  pub same_net : cover.net ≡ cut.net
  pub encloses : Encloses cover.shape.rect (grown (length_in r r.cut.enclose) cut.shape.rect)

-- each wire is as wide as its layer's rule says, and each cut is a square of the cut's size that a rectangle of its net encloses on each
-- layer of wires
pub record AreWide (r : RuleValues) (drawn : List Drawn) : Type 0 where
  pub horizontal : (d : Drawn) → Contains drawn d → d.shape.layer ≡ r.horizontal.layer → HasSides (length_in r r.horizontal.width) d.shape.rect
  pub vertical : (d : Drawn) → Contains drawn d → d.shape.layer ≡ r.vertical.layer → HasSides (length_in r r.vertical.width) d.shape.rect
  pub cut : (d : Drawn) → Contains drawn d → d.shape.layer ≡ r.cut.layer → IsSquare (length_in r r.cut.size) d.shape.rect
  pub in_horizontal : (d : Drawn) → Contains drawn d → d.shape.layer ≡ r.cut.layer → IsCovered r drawn r.horizontal.layer d
  pub in_vertical : (d : Drawn) → Contains drawn d → d.shape.layer ≡ r.cut.layer → IsCovered r drawn r.vertical.layer d
