use Rattle.std.proofs.Common.{◌≡◌, ◌++◌, drop, filter}
use Rattle.layout_merge.specs.Drawn.{is_known, known_cells}
use Rattle.layout_merge.specs.MergedLayout.{outside}
use Rattle.layout_merge.proofs.merging.outside.Given as goal

abbrev pub invariant-loop-cell : goal.invariant-loop-cell
invariant-loop-cell l =
    l.found.items ++ outside l.end (filter (is_known l.design) (drop l.cell-index l.layout.cells)) l.layout.shapes
    ≡ outside 0 (known_cells l.design l.layout) l.layout.shapes
