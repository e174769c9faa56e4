use Rattle.std.proofs.Common.{length}
use Rattle.cif_reader.proofs.TableLemmas.{IsDone}
use Rattle.cif_reader.proofs.table.+drawn.Given as goal

abbrev pub decreases-drawn : goal.decreases-drawn
decreases-drawn l = length l.table.now

abbrev pub invariant-loop-item : goal.invariant-loop-item
invariant-loop-item l = IsDone l.table l.fn.items l.rest l.shapes.items

abbrev pub decreases-loop-item : goal.decreases-loop-item
decreases-loop-item l = length l.rest
