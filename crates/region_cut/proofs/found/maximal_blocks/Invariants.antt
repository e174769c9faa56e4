use Rattle.std.proofs.Common.{◌≡◌, ◌≤◌, reverse}
use Rattle.region_cut.specs.Areas.{grid_in}
use Rattle.region_cut.specs.Grids.{columns, strips}
use Rattle.region_cut.specs.Ceilings.{AreCeilings, AreUnder}
use Rattle.region_cut.specs.Maximal.{rects_from}
use Rattle.region_cut.proofs.found.maximal_blocks.Given as goal

abbrev pub invariant-loop-low : goal.invariant-loop-low
invariant-loop-low l = record {
  within : l.low ≤ strips (grid_in l.lined.area);
  made : l.found.rects.items ≡ reverse (rects_from (grid_in l.lined.area) l.low);
  most : l.found.most ≡ l.most;
  tops : AreCeilings (grid_in l.lined.area).filled (strips (grid_in l.lined.area)) (columns (grid_in l.lined.area)) l.low l.tops.items;
  cells : AreUnder (grid_in l.lined.area).filled (columns (grid_in l.lined.area)) l.low l.cells.items;
}

abbrev pub decreases-loop-low : goal.decreases-loop-low
decreases-loop-low l = l.low
