use Rattle.std.proofs.Common.{◌≡◌, List, refl}
use Rattle.geom_core.specs.declared.corner.Corner.{Corner}
use Rattle.region_cut.specs.Cells.{grid_of}
use Rattle.region_cut.specs.Grids.{blocks_of}
use Rattle.region_cut.specs.Maximal.{maximal, rects_from}
use Rattle.region_cut.proofs.MaximalLaws.{all-rects}

-- the rectangles of a polygon are those of its grid
pub maximal-is : (path : List Corner) → maximal path ≡ blocks_of (grid_of path)
unfolding maximal
maximal-is path = refl

pub maximal-rects : (path : List Corner) → maximal path ≡ rects_from (grid_of path) 0
unfolding maximal
maximal-rects path = all-rects (grid_of path)
