-- layers, each in a plane of its own
use Rattle.std.specs.Prelude.{ℕ, pos, ◌*◌, ◌+◌, List, if◌then◌else◌}
use Rattle.std.specs.Str.{bytes_eq}
use Rattle.geom_core.specs.Extent.{Extent}
use Rattle.close_rects.specs.Planes.{in_plane}
use Rattle.tech_rules.specs.Rules.{RuleValues}
use Rattle.geom_extract.specs.declared.plane.Plane.{Plane}
use Rattle.geom_extract.specs.declared.plane.Plane.TheVariants.{Horizontal, Vertical, Cut, Other}

-- which layer this is, as far as shapes conduct to one another
abbrev pub plane_of : RuleValues → List ℕ → Plane
plane_of r layer =
    if bytes_eq layer r.horizontal.layer then Horizontal
    else (if bytes_eq layer r.vertical.layer then Vertical else (if bytes_eq layer r.cut.layer then Cut else Other))

-- the number of a layer's plane
abbrev pub number_of : Plane → ℕ
number_of Horizontal = 0
number_of Vertical = 1
number_of Cut = 2
number_of Other = 3

-- a rectangle in the plane of a layer
abbrev pub raised : Plane → Extent → Extent
raised plane e = in_plane (number_of plane) e

-- a rectangle above all layers that meets that of no other shape
abbrev pub tie_at : ℕ → Extent
tie_at shape = record { x0 = pos (2 * shape); y0 = pos 16000000000000000; x1 = pos (2 * shape + 1); y1 = pos 16000000000000001 }
