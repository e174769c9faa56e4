use Rattle.std.proofs.Common.{rules}
use Rattle.region_cut.specs.Grids.{line}
use Rattle.region_cut.proofs.CellLaws.{flip-cell, changing-same, changing-written, keep-cell}
use Rattle.region_cut.proofs.edges.flip.Goals as goal
use Rattle.region_cut.proofs.edges.flip.Goals.{then-from-across, else-from-across}

pub loop-column-preserved : goal.loop-column-preserved
loop-column-preserved c =
    elim c.if-from-across.branch [
      | then-from-across w ↦
          changing-written _ _ c.loop-column.column c.args.cells.now c.loop-column.cells c.if-from-across.cells _ c.loop-column.invariant c.loop-column-test.true w.cells-is
          (flip-cell (line c.args.across.now c.loop-column.column) c.args.heights.now.low c.args.heights.now.high (record { from = c.args.from.now; to = c.args.to.now }) _ _
          (search rules) (search rules) w.if-from-across.true c.if-not-spans.ensures)
      | else-from-across w ↦
          changing-same _ _ c.loop-column.column c.args.cells.now c.loop-column.cells c.if-from-across.cells c.loop-column.invariant w.cells-is
          (flip-cell (line c.args.across.now c.loop-column.column) c.args.heights.now.low c.args.heights.now.high (record { from = c.args.from.now; to = c.args.to.now }) _ _
          (search rules) (search rules) w.if-from-across.false c.if-not-spans.ensures)
    ]

pub returns-then-not-spans-clause-flipped : goal.returns-then-not-spans-clause-flipped
returns-then-not-spans-clause-flipped c = λ column within.
    keep-cell (line c.args.across.now column) c.args.heights.now.low c.args.heights.now.high (record { from = c.args.from.now; to = c.args.to.now }) _ c.if-not-spans.ensures
