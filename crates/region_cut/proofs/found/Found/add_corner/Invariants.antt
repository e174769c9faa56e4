use Rattle.std.proofs.Common.{◌≡◌, ◌≤◌, ◌-◌, ◌++◌, map, max, reverse}
use Rattle.std.specs.Prelude.{slice_index}
use Rattle.region_cut.specs.Areas.{grid_in}
use Rattle.region_cut.specs.Ceilings.{IsHeld}
use Rattle.region_cut.specs.Grids.{columns, extent_of, strips}
use Rattle.region_cut.proofs.RowLaws.{rows_above}
use Rattle.region_cut.proofs.found.Found.add_corner.Given as goal

abbrev pub invariant-loop-column : goal.invariant-loop-column
invariant-loop-column l = record {
  held : IsHeld (grid_in l.strip.lined.now.area).filled (columns (grid_in l.strip.lined.now.area)) l.strip.low l.strip.tops.now l.left l.column;
  within : l.column ≤ columns (grid_in l.strip.lined.now.area);
  made : l.self.rects.items ≡ l.fn.self.rects.items ++ reverse (map (extent_of (grid_in l.strip.lined.now.area)) (rows_above (grid_in l.strip.lined.now.area).filled (strips (grid_in l.strip.lined.now.area)) (columns (grid_in l.strip.lined.now.area)) l.strip.low l.left (max l.floor (slice_index l.strip.tops.now l.column))));
  most : l.self.most ≡ l.fn.self.most;
}

abbrev pub decreases-loop-column : goal.decreases-loop-column
decreases-loop-column l = columns (grid_in l.strip.lined.now.area) - l.column
