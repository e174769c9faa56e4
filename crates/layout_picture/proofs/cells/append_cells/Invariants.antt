use Rattle.std.proofs.Common.{length, true}
use Rattle.shelf_io.proofs.SoFar.{SoFar}
use Rattle.layout_picture.specs.Cells.{cells_text}
use Rattle.layout_picture.proofs.cells.append_cells.Given as goal

-- those before the ones that are left were written, and nothing has failed
abbrev pub invariant-loop-cell : goal.invariant-loop-cell
invariant-loop-cell g l = SoFar (cells_text l.frame l.layout l.fn.cells) (cells_text l.frame l.layout l.rest) l.fn.buffer l.buffer
    (g.K.Sink.written l.fn.out) (g.K.Sink.written l.out) (g.K.Sink.faults l.fn.out) (g.K.Sink.faults l.out) (g.K.Sink.same_place l.fn.out l.out)
    (g.K.Sink.else_same l.fn.out l.out true)

abbrev pub decreases-loop-cell : goal.decreases-loop-cell
decreases-loop-cell g l = length l.rest
