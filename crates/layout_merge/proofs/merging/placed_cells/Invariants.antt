use Rattle.std.proofs.Common.{◌≡◌, ◌++◌, drop, filter, length}
use Rattle.std.specs.List.{flat_map}
use Rattle.layout_merge.specs.Drawn.{drawn, is_known, known_cells}
use Rattle.layout_merge.specs.MergedLayout.{placed}
use Rattle.layout_merge.proofs.merging.placed_cells.Given as goal

abbrev pub invariant-loop-cell : goal.invariant-loop-cell
invariant-loop-cell l = record {
  cells : l.placed.cells.items ++ placed (drawn l.rules l.design l.layout) (length l.placed.shapes.items) (filter (is_known l.design) (drop l.cell-index l.layout.cells))
      ≡ placed (drawn l.rules l.design l.layout) 0 (known_cells l.design l.layout);
  shapes : l.placed.shapes.items ++ flat_map (drawn l.rules l.design l.layout) (filter (is_known l.design) (drop l.cell-index l.layout.cells))
      ≡ flat_map (drawn l.rules l.design l.layout) (known_cells l.design l.layout);
}
