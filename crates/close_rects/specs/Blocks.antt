-- bounds round blocks of them, and the first that meets a window
use Rattle.std.specs.Prelude.{◌≡◌, ◌+◌, ◌*◌, ◌<◌, ◌≤◌, ◌^◌, ℕ, List, length, Some, false}
use Rattle.std.specs.List.{slice_get}
use Rattle.geom_core.specs.Extent.{Extent}
use Rattle.geom_core.specs.Rectangles.{Encloses, Meet}
use Rattle.close_rects.specs.declared.items.Item.{Item}
use Rattle.close_rects.specs.declared.blocks.Node.{Node}

-- what is left from one place on up to before another lies in these bounds
abbrev pub Covers : List Item → ℕ → ℕ → Extent → Type 0
Covers items low high bounds =
    (k : ℕ) (item : Item) → low ≤ k → k < high → slice_get items k ≡ Some item → item.taken ≡ false → Encloses bounds item.rect

-- the node of block b tells of this block, and of those up to before the next
pub record IsNode (items : List Item) (count b : ℕ) (node : Node) : Type 0 where
  pub on : b < node.next
  pub within : node.next ≤ count
  pub own : Covers items (8 * b) (8 * b + 8) node.own
  pub all : Covers items (8 * b) (8 * node.next) node.all

-- a node for each block of eight items
pub record IsIndexed (items : List Item) (nodes : List Node) : Type 0 where
  pub each : (b : ℕ) (node : Node) → slice_get nodes b ≡ Some node → IsNode items (length nodes) b node
  pub enough : length items ≤ 8 * length nodes
  pub short : length nodes ≤ length items
  pub few : length items < 2 ^ 32

-- a rectangle that is left meets the window
pub record IsMet (window : Extent) (item : Item) : Type 0 where
  pub left : item.taken ≡ false
  pub meets : Meet window item.rect

-- none from one place on up to before another does
abbrev pub NoneMet : List Item → Extent → ℕ → ℕ → Type 0
NoneMet items window low high = (k : ℕ) (item : Item) → low ≤ k → k < high → slice_get items k ≡ Some item → ¬ IsMet window item

-- the first place of one that does
pub record IsFirstMet (items : List Item) (window : Extent) (from k : ℕ) : Type 0 where
  pub on : from ≤ k
  pub within : k < length items
  pub met : (item : Item) → slice_get items k ≡ Some item → IsMet window item
  pub before : NoneMet items window from k

-- the sides of a rectangle, each in the place of the opposite one
abbrev pub inside_out : Extent → Extent
inside_out e = record { x0 = e.x1; y0 = e.y1; x1 = e.x0; y1 = e.y0 }
