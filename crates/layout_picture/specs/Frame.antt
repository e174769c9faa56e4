-- what is in a picture: its frame, and the shapes that are shown
use Rattle.std.specs.Prelude.{ℤ, pos, ◌-ℤ◌, int_le, List, filter, Bool, ◌&&◌, unwrap_or}
use Rattle.geom_core.specs.Extent.{Extent}
use Rattle.geom_core.specs.declared.layout.Layout.{Layout}
use Rattle.geom_core.specs.declared.layout.Shape.{Shape}
use Rattle.layout_picture.specs.declared.view.View.{View}
use Rattle.shape_extents.specs.Extents.{extent_of}

-- a square of a micron, where there are no shapes
abbrev pub bare_frame : Extent
bare_frame = record { x0 = pos 0; y0 = pos 0; x1 = pos 200; y1 = pos 200 }

-- the least rectangle round all shapes
abbrev pub frame_around : List Shape → Extent
frame_around shapes = unwrap_or (extent_of shapes) bare_frame

-- the part of a layout that is asked for, or all of it
abbrev pub frame_of : Layout → View → Extent
frame_of l v = unwrap_or v.part (frame_around l.shapes)

-- two stretches share a point, and two closed rectangles
abbrev pub do_overlap : ℤ → ℤ → ℤ → ℤ → Bool
do_overlap low high other_low other_high = int_le low other_high && int_le other_low high

abbrev pub do_meet : Extent → Extent → Bool
do_meet a b = do_overlap a.x0 a.x1 b.x0 b.x1 && do_overlap a.y0 a.y1 b.y0 b.y1

-- the shapes that are shown: those that meet the frame
abbrev pub shown_shapes : Extent → List Shape → List Shape
shown_shapes f shapes = filter (λ (s : Shape). do_meet f s.rect) shapes

-- how far a height lies below the top of the frame: in SVG y grows downwards
abbrev pub turned : Extent → ℤ → ℤ
turned f y = f.y1 -ℤ y
