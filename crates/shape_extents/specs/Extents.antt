-- the least rectangles round two others, and round shapes
use Rattle.std.specs.Prelude.{List, [], ◌∷◌, Option, Some, None}
use Rattle.std.specs.Int.{int_max, int_min}
use Rattle.geom_core.specs.Extent.{Extent}
use Rattle.geom_core.specs.declared.layout.Shape.{Shape}

-- the least rectangle round two, and round one and those of shapes
abbrev pub around : Extent → Extent → Extent
around e f = record { x0 = int_min e.x0 f.x0; y0 = int_min e.y0 f.y0; x1 = int_max e.x1 f.x1; y1 = int_max e.y1 f.y1 }

abbrev pub around_all : Extent → List Shape → Extent
around_all e [] = e
around_all e (s ∷ ss) = around_all (around e s.rect) ss

-- round shapes, if there are any
abbrev pub extent_of : List Shape → Option Extent
extent_of [] = None
extent_of (s ∷ ss) = Some (around_all s.rect ss)
