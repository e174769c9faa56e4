use Rattle.std.proofs.Common.{◌≡◌, length}
use Rattle.cif_writer.specs.LabelParts.{shape_beside}
use Rattle.cif_writer.proofs.marks.shape_beside.Given as goal

abbrev pub invariant-loop-position : goal.invariant-loop-position
invariant-loop-position l = shape_beside l.terminal l.positions l.shapes ≡ shape_beside l.terminal l.rest l.beside

abbrev pub decreases-loop-position : goal.decreases-loop-position
decreases-loop-position l = length l.rest
