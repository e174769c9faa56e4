-- sides of rectangles, and two rectangles that enclose one another, meet, or keep a distance
use Rattle.std.specs.Prelude.{◌≡◌, ℤ, ◌+ℤ◌, ◌-ℤ◌, ◌≤ℤ◌, int_lt, if◌then◌else◌}
use Rattle.geom_core.specs.Extent.{Extent}

-- a rectangle of which both sides are at least d long
pub record HasSides (d : ℤ) (e : Extent) : Type 0 where
  pub across : (e.x0 +ℤ d) ≤ℤ e.x1
  pub up : (e.y0 +ℤ d) ≤ℤ e.y1

-- a square of side d
pub record IsSquare (d : ℤ) (e : Extent) : Type 0 where
  pub across : e.x0 +ℤ d ≡ e.x1
  pub up : e.y0 +ℤ d ≡ e.y1

-- the second rectangle lies in the first
pub record Encloses (outer inner : Extent) : Type 0 where
  pub left : outer.x0 ≤ℤ inner.x0
  pub low : outer.y0 ≤ℤ inner.y0
  pub right : inner.x1 ≤ℤ outer.x1
  pub high : inner.y1 ≤ℤ outer.y1

-- a rectangle that reaches further by d on every side
abbrev pub grown : ℤ → Extent → Extent
grown d e = record { x0 = e.x0 -ℤ d; y0 = e.y0 -ℤ d; x1 = e.x1 +ℤ d; y1 = e.y1 +ℤ d }

-- two closed rectangles share a point
pub record Meet (a b : Extent) : Type 0 where
  pub left : a.x0 ≤ℤ b.x1
  pub right : b.x0 ≤ℤ a.x1
  pub low : a.y0 ≤ℤ b.y1
  pub high : b.y0 ≤ℤ a.y1

-- the gap between two stretches, from the end of the one to the beginning of the other: below 0 where they overlap
abbrev pub gap_between : ℤ → ℤ → ℤ → ℤ → ℤ
gap_between low high other_low other_high =
    (if int_lt low other_low then other_low else low) -ℤ (if int_lt other_high high then other_high else high)

-- the gaps between two rectangles in x and in y
abbrev pub gap : Extent → Extent → ℤ × ℤ
gap a b = (gap_between a.x0 a.x1 b.x0 b.x1, gap_between a.y0 a.y1 b.y0 b.y1)

-- between two rectangles there is a gap of at least d in x or in y
pub data Apart (d : ℤ) (a b : Extent) : Type 0 where
  left_of : (a.x1 +ℤ d) ≤ℤ b.x0 → Apart d a b
  right_of : (b.x1 +ℤ d) ≤ℤ a.x0 → Apart d a b
  under : (a.y1 +ℤ d) ≤ℤ b.y0 → Apart d a b
  above : (b.y1 +ℤ d) ≤ℤ a.y0 → Apart d a b
