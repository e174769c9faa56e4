-- planes so far apart that rectangles of different planes neither meet nor are close
use Rattle.std.specs.Prelude.{ℕ, ℤ, pos, ◌+ℤ◌, ◌*◌}
use Rattle.geom_core.specs.Extent.{Extent}

-- how far a plane lies above the first, by its number
abbrev pub plane_height : ℕ → ℤ
plane_height plane = pos (plane * 4000000000000000)

-- a rectangle in a plane
abbrev pub in_plane : ℕ → Extent → Extent
in_plane plane e = record { x0 = e.x0; y0 = e.y0 +ℤ plane_height plane; x1 = e.x1; y1 = e.y1 +ℤ plane_height plane }
