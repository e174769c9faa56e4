use Rattle.std.proofs.Common.{◌≡◌, ◌≤◌, ◌++◌, reverse}
use Rattle.region_cut.specs.Areas.{grid_in}
use Rattle.region_cut.specs.Ceilings.{IsLowest}
use Rattle.region_cut.specs.Grids.{columns}
use Rattle.region_cut.specs.Maximal.{strip_rects}
use Rattle.region_cut.proofs.found.Found.add_strip.Given as goal

abbrev pub invariant-loop-left : goal.invariant-loop-left
invariant-loop-left l = record {
  lowest : IsLowest (grid_in l.strip.lined.now.area).filled (columns (grid_in l.strip.lined.now.area)) l.strip.low l.strip.tops.now l.left l.lowest;
  within : l.left ≤ columns (grid_in l.strip.lined.now.area);
  made : l.self.rects.items ≡ l.fn.self.rects.items ++ reverse (strip_rects (grid_in l.strip.lined.now.area) l.strip.low l.left);
  most : l.self.most ≡ l.fn.self.most;
}

abbrev pub decreases-loop-left : goal.decreases-loop-left
decreases-loop-left l = l.left
