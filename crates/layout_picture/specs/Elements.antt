-- rectangles, and those of shapes
use Rattle.std.specs.Prelude.{ℕ, ◌-ℤ◌, List, [], ◌∷◌, ◌++◌, codes, map, if◌then◌else◌}
use Rattle.std.specs.List.{concat}
use Rattle.geom_core.specs.Extent.{Extent}
use Rattle.geom_core.specs.declared.layout.Shape.{Shape}
use Rattle.marker_text.specs.Microns.{microns}
use Rattle.layout_picture.specs.Frame.{do_meet, shown_shapes, turned}

-- a rectangle under a frame: its left and its upper side, its width and its height
unfoldable pub sides_text : Extent → Extent → List ℕ
sides_text f e = concat (codes " x=\"" ∷ microns e.x0 ∷ codes "\" y=\"" ∷ microns (turned f e.y1)
    ∷ codes "\" width=\"" ∷ microns (e.x1 -ℤ e.x0) ∷ codes "\" height=\"" ∷ microns (e.y1 -ℤ e.y0) ∷ codes "\"/>\n" ∷ [])

-- that of a shape, in the class of its layer
unfoldable pub shape_text : Extent → Shape → List ℕ
shape_text f s = concat (codes "    <rect class=\"layer-" ∷ s.layer ∷ codes "\"" ∷ []) ++ sides_text f s.rect

-- what is written of a shape
abbrev pub shown_text : Extent → Shape → List ℕ
shown_text f s = if do_meet f s.rect then shape_text f s else []

-- those of the shapes that are shown, in their order
abbrev pub shapes_text : Extent → List Shape → List ℕ
shapes_text f shapes = concat (map (shape_text f) (shown_shapes f shapes))
