-- links between shapes by rectangles that meet, and chains of them
use Rattle.std.specs.Prelude.{◌≡◌, ◌⊎◌, ◌<◌, ◌^◌, ℕ, List, length, Some, slice_get}
use Rattle.geom_core.specs.Extent.{Extent}
use Rattle.geom_core.specs.Rectangles.{Meet}
use Rattle.geom_extract.specs.declared.asker.Asks.{Asks}

-- rectangles, the shape to which each leads, and what each shape asks with
pub record Web : Type 0 where
  pub rects : List Extent
  pub ends : List ℕ
  pub asks : List Asks

-- a rectangle of the web that meets this one leads to the shape
pub record Leads (web : Web) (ask : Extent) (shape : ℕ) : Type 0 where
  pub number : ℕ
  pub rect : Extent
  pub is_rect : slice_get web.rects number ≡ Some rect
  pub is_end : slice_get web.ends number ≡ Some shape
  pub meets : Meet ask rect

-- a shape is linked to another where a rectangle that it asks with leads there
pub record Linked (web : Web) (x y : ℕ) : Type 0 where
  pub asks : Asks
  pub is_asks : slice_get web.asks x ≡ Some asks
  pub leads : Leads web asks.first y ⊎ (Leads web asks.second y ⊎ Leads web asks.third y)

-- a chain of links leads from one shape to another, or they are the same
pub data Chain (web : Web) (from : ℕ) : ℕ → Type 0 where
  here : Chain web from from
  step : {x : ℕ} (y : ℕ) → Chain web from x → Linked web x y → Chain web from y

-- each rectangle leads to a shape, and links go both ways
pub record IsWeb (web : Web) : Type 0 where
  pub few : length web.rects < 2 ^ 32
  pub few_shapes : length web.asks < 2 ^ 32
  pub lengths : length web.ends ≡ length web.rects
  pub ends : (number shape : ℕ) → slice_get web.ends number ≡ Some shape → shape < length web.asks
  pub both_ways : (x y : ℕ) → Linked web x y → Linked web y x
