-- numbered rectangles
use Rattle.std.specs.Prelude.{◌≡◌, ◌<ℤ◌, ℕ, List, [], ◌∷◌, false, if◌then◌else◌}
use Rattle.geom_core.specs.Extent.{Extent}
use Rattle.geom_core.specs.Reach.{IsExtentInWideReach}
use Rattle.close_rects.specs.declared.items.Item.{Item}

-- a numbered rectangle that has not been taken
abbrev pub fresh : ℕ × Extent → Item
fresh p = record { rect = p.1; number = p.0; taken = false }

-- a rectangle behind its number
abbrev pub entry : Item → ℕ × Extent
entry item = (item.number, item.rect)

-- the rectangles that are left, each behind its number
abbrev pub left_of : List Item → List (ℕ × Extent)
left_of [] = []
left_of (item ∷ items) = if item.taken then left_of items else entry item ∷ left_of items

-- a rectangle with sides
pub record HasInside (e : Extent) : Type 0 where
  pub across : e.x0 <ℤ e.x1
  pub up : e.y0 <ℤ e.y1

-- an item that has not been taken, whose rectangle has sides that lie within reach
pub record IsFit (item : Item) : Type 0 where
  pub left : item.taken ≡ false
  pub inside : HasInside item.rect
  pub wide : IsExtentInWideReach item.rect
