-- the numbers of boxes, wires, polygons and calls at a scale
use Rattle.std.specs.Prelude.{if◌then◌else◌, ℕ, suc, ◌*◌, ◌/◌, ◌%◌, ℤ, pos, negsuc, ◌+ℤ◌, ◌-ℤ◌, ◌*ℤ◌, neg_ℤ, Bool, true, false, ◌==◌, List, [], ◌∷◌, map, Option, Some, None, option_map}
use Rattle.geom_core.specs.declared.corner.Corner.{Corner}
use Rattle.geom_core.specs.Extent.{Extent}
use Rattle.region_cut.specs.Strokes.{strokes}
use Rattle.geom_core.specs.Turning.{Turning}

-- CIF 2.0: a definition's numbers count as multiplied by a / b. There is none where that is not whole
abbrev pub scaled_natural : ℕ → ℕ → ℕ → Option ℕ
scaled_natural a b n = if n * a % b == 0 then Some (n * a / b) else None

abbrev pub scaled : ℕ → ℕ → ℤ → Option ℤ
scaled a b (pos n) = option_map (λ m. pos m) (scaled_natural a b n)
scaled a b (negsuc n) = option_map (λ m. neg_ℤ (pos m)) (scaled_natural a b (suc n))

abbrev pub doubled : ℤ → ℤ
doubled z = pos 2 *ℤ z

-- the rectangle around a centre, in half of the unit that its sides and its centre have
abbrev pub around : ℤ → ℤ → ℤ → ℤ → Extent
around across up cx cy =
    record { x0 = doubled cx -ℤ across; y0 = doubled cy -ℤ up; x1 = doubled cx +ℤ across; y1 = doubled cy +ℤ up }

-- CIF 2.0: a box has its length along its direction
abbrev pub box_around : ℤ → ℤ → ℤ → ℤ → Bool → Extent
box_around long wide cx cy true = around wide long cx cy
box_around long wide cx cy false = around long wide cx cy

-- a rectangle at a scale, where its four sides are whole
abbrev pub extent_of : Option ℤ → Option ℤ → Option ℤ → Option ℤ → Option Extent
extent_of (Some x0) (Some y0) (Some x1) (Some y1) = Some (record { x0 = x0; y0 = y0; x1 = x1; y1 = y1 })
extent_of _ _ _ _ = None

abbrev pub scaled_extent : ℕ → ℕ → Extent → Option Extent
scaled_extent a b e = extent_of (scaled a b e.x0) (scaled a b e.y0) (scaled a b e.x1) (scaled a b e.y1)

-- rectangles at a scale, where the sides of all are whole
abbrev pub with_extent : Option Extent → Option (List Extent) → Option (List Extent)
with_extent (Some e) (Some es) = Some (e ∷ es)
with_extent _ _ = None

abbrev pub scaled_extents : ℕ → ℕ → List Extent → Option (List Extent)
scaled_extents a b [] = Some []
scaled_extents a b (e ∷ es) = with_extent (scaled_extent a b e) (scaled_extents a b es)

-- a point in half of the unit that its coordinates have
abbrev pub doubled_corner : Corner → Corner
doubled_corner c = record { x = doubled c.x; y = doubled c.y }

-- the project's own: a wire's ends are square and reach half its width past its path. The rectangles of its steps, in half of the unit that its numbers have
abbrev pub wire_around : ℤ → List Corner → List Extent
wire_around width path = strokes width (map doubled_corner path)

-- points at a scale, where the coordinates of all are whole
abbrev pub corner_at : Option ℤ → Option ℤ → Option Corner
corner_at (Some x) (Some y) = Some (record { x = x; y = y })
corner_at _ _ = None

abbrev pub scaled_corner : ℕ → ℕ → Corner → Option Corner
scaled_corner a b c = corner_at (scaled a b c.x) (scaled a b c.y)

abbrev pub with_corner : Option Corner → Option (List Corner) → Option (List Corner)
with_corner (Some c) (Some cs) = Some (c ∷ cs)
with_corner _ _ = None

abbrev pub scaled_corners : ℕ → ℕ → List Corner → Option (List Corner)
scaled_corners a b [] = Some []
scaled_corners a b (c ∷ cs) = with_corner (scaled_corner a b c) (scaled_corners a b cs)

-- a call's turn at a scale, with its offset in half centimicrons, where that is whole
abbrev pub turning_of : Bool → ℕ → Option ℤ → Option ℤ → Option Turning
turning_of flip quarters (Some dx) (Some dy) = Some (record { flip = flip; quarters = quarters; dx = dx; dy = dy })
turning_of _ _ _ _ = None

abbrev pub scaled_turning : ℕ → ℕ → Bool → ℕ → ℤ → ℤ → Option Turning
scaled_turning a b flip quarters dx dy = turning_of flip quarters (scaled a b (doubled dx)) (scaled a b (doubled dy))
