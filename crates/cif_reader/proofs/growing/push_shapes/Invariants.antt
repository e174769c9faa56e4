use Rattle.std.proofs.Common.{◌+◌, ◌≤◌, length}
use Rattle.cif_reader.specs.Limits.{most_shapes}
use Rattle.cif_reader.proofs.GrowingLemmas.{GrowsTo}
use Rattle.cif_reader.proofs.growing.push_shapes.Given as goal

abbrev pub invariant-loop-shape : goal.invariant-loop-shape
invariant-loop-shape l = (l.kept.count + length l.rest ≤ most_shapes) × GrowsTo l.fn.kept l.kept l.fn.shapes l.rest l.depth

abbrev pub decreases-loop-shape : goal.decreases-loop-shape
decreases-loop-shape l = length l.rest
