-- each element of a wiring is drawn, and rectangles meet where their elements share a point of a layer
use Rattle.std.specs.Prelude.{◌≡◌, ℕ, List, Contains}
use Rattle.channel_model.specs.declared.wiring.Wiring.{Wiring}
use Rattle.channel_model.specs.Elements.{Layer, vertical, horizontal, Element, elements, net_of, Covers, Meets}
use Rattle.geom_core.specs.Rectangles.{Meet}
use Rattle.tech_rules.specs.Rules.{RuleValues}
use Rattle.wire_geom.specs.Drawing.{drawn_by}
use Rattle.wire_geom.specs.declared.drawn.Drawn.{Drawn}

-- the name of a layer of wires
abbrev pub layer_name : RuleValues → Layer → List ℕ
layer_name r vertical = r.vertical.layer
layer_name r horizontal = r.horizontal.layer

-- a rectangle is one of those of an element of the wiring
pub record IsOf (r : RuleValues) (base : ℕ) (wiring : Wiring) (d : Drawn) : Type 0 where
  pub element : Element
  pub is_element : Contains (elements wiring) element
  pub is_drawn : Contains (drawn_by r base wiring.tracks element) d

-- Each element of the wiring is drawn, on each layer of which it covers a point, and nothing else is; its rectangles are of its net. Where two elements share a point of a layer,
-- each rectangle of the one shares a point with each of the other; so do any two of one via.
pub record KeepContact (r : RuleValues) (base : ℕ) (wiring : Wiring) (drawn : List Drawn) : Type 0 where
  pub all : (e : Element) (d : Drawn) → Contains (elements wiring) e → Contains (drawn_by r base wiring.tracks e) d → Contains drawn d
  pub alone : (d : Drawn) → Contains drawn d → IsOf r base wiring d
  pub nets : (e : Element) (d : Drawn) → Contains (elements wiring) e → Contains (drawn_by r base wiring.tracks e) d → d.net ≡ net_of e
  pub shown : (e : Element) (layer : Layer) (column line : ℕ) → Contains (elements wiring) e → Covers e layer column line
      → (d : Drawn) × Contains (drawn_by r base wiring.tracks e) d × (d.shape.layer ≡ layer_name r layer)
  pub contact : (e f : Element) (a b : Drawn) → Contains (elements wiring) e → Contains (elements wiring) f → Meets e f
      → Contains (drawn_by r base wiring.tracks e) a → Contains (drawn_by r base wiring.tracks f) b → Meet a.shape.rect b.shape.rect
