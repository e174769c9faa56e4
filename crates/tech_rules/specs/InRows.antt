-- outlines that stand in rows: of one row, or of rows that share no inner height, and never one on the other
use Rattle.std.specs.Prelude.{◌≡◌, ◌≢◌, ◌⊎◌, ◌≤ℤ◌, ℕ, pos, Some, slice_get}
use Rattle.geom_core.specs.declared.layout.Layout.{Layout}
use Rattle.geom_core.specs.declared.layout.Shape.{Shape}
use Rattle.geom_core.specs.Extent.{Extent}
use Rattle.geom_core.specs.Rectangles.{Apart}
use Rattle.tech_rules.specs.Rules.{RuleValues}

-- two rectangles are of one row: they stand at the same height, however high they are
abbrev pub SameRow : Extent → Extent → Type 0
SameRow a b = a.y0 ≡ b.y0

-- one rectangle ends where the other begins, or below
abbrev pub IsBelow : Extent → Extent → Type 0
IsBelow a b = a.y1 ≤ℤ b.y0

-- the product's own rule: any two outlines are of one row, or of rows that share no inner height, and they share no inner point
pub record InRows (r : RuleValues) (l : Layout) : Type 0 where
  pub rows : (i j : ℕ) (s t : Shape) → i ≢ j → slice_get l.shapes i ≡ Some s → slice_get l.shapes j ≡ Some t
      → s.layer ≡ r.outline.layer → t.layer ≡ r.outline.layer → SameRow s.rect t.rect ⊎ IsBelow s.rect t.rect ⊎ IsBelow t.rect s.rect
  pub apart : (i j : ℕ) (s t : Shape) → i ≢ j → slice_get l.shapes i ≡ Some s → slice_get l.shapes j ≡ Some t
      → s.layer ≡ r.outline.layer → t.layer ≡ r.outline.layer → Apart (pos 0) s.rect t.rect
