use Rattle.region_cut.specs.Areas.{grid_in}
use Rattle.region_cut.specs.declared.area.Area.{Area}
use Rattle.region_cut.specs.declared.area.Area.TheVariants.{Path, Rects}
use Rattle.region_cut.proofs.LineLaws.{Rises, rises-ascending}

-- each line of an area lies below the next
pub rises-across : (a : Area) → Rises (grid_in a).across
rises-across (Path path) = rises-ascending _
rises-across (Rects rects) = rises-ascending _

pub rises-up : (a : Area) → Rises (grid_in a).up
rises-up (Path path) = rises-ascending _
rises-up (Rects rects) = rises-ascending _
