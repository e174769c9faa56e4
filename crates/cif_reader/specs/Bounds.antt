-- rectangles around others
use Rattle.std.specs.Prelude.{Option, Some, None}
use Rattle.std.specs.Int.{int_min, int_max}
use Rattle.geom_core.specs.Extent.{Extent}

-- the rectangle around two
abbrev pub around_both : Extent → Extent → Extent
around_both e f = record { x0 = int_min e.x0 f.x0; y0 = int_min e.y0 f.y0; x1 = int_max e.x1 f.x1; y1 = int_max e.y1 f.y1 }

abbrev pub joined : Option Extent → Option Extent → Option Extent
joined None second = second
joined (Some e) None = Some e
joined (Some e) (Some f) = Some (around_both e f)
