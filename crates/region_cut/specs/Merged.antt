-- rectangles merged
use Rattle.std.specs.Prelude.{ℕ, ◌+◌, ◌*◌, ◌&&◌, ◌↔◌, ℤ, List, Contains, if◌then◌else◌, length, nat_le}
use Rattle.geom_core.specs.Extent.{Extent}
use Rattle.region_cut.specs.Covered.{grid_over}
use Rattle.region_cut.specs.Grids.{blocks_of, columns, strips}
use Rattle.region_cut.specs.Strokes.{IsIn}

-- how much there is to look at
abbrev pub work : List Extent → ℕ
work rects = strips (grid_over rects) * (columns (grid_over rects) + length rects)

-- the maximal blocks of the area that rectangles cover together. Rectangles stay as they are where that takes more work than allowed, or
-- would give more than twice as many
unfoldable pub merged : ℕ → List Extent → List Extent
merged most rects =
    if nat_le (work rects) most && nat_le (length (blocks_of (grid_over rects))) (2 * length rects) then blocks_of (grid_over rects) else rects

-- a point that lies in one of these rectangles, their sides included
abbrev pub IsInSome : ℤ → ℤ → List Extent → Type 0
IsInSome x y rects = (r : Extent) × Contains rects r × IsIn x y r

-- rectangles in which the same points lie
abbrev pub CoverSame : List Extent → List Extent → Type 0
CoverSame first second = (x y : ℤ) → IsInSome x y first ↔ IsInSome x y second
