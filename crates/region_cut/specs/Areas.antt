-- the grids of areas
use Rattle.region_cut.specs.Cells.{grid_of}
use Rattle.region_cut.specs.Covered.{grid_over}
use Rattle.region_cut.specs.Grids.{Grid}
use Rattle.region_cut.specs.declared.area.Area.{Area}
use Rattle.region_cut.specs.declared.area.Area.TheVariants.{Path, Rects}

-- what a path encloses, or what rectangles cover
abbrev pub grid_in : Area → Grid
grid_in (Path path) = grid_of path.now
grid_in (Rects rects) = grid_over rects.now
