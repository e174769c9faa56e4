use Rattle.std.proofs.Common.{◌≡◌, length}
use Rattle.label_reader.specs.Naming.{label_on}
use Rattle.label_reader.proofs.naming.label_on.Given as goal

abbrev pub invariant-loop-label : goal.invariant-loop-label
invariant-loop-label l = label_on l.fn.outline l.rest l.fn.shapes ≡ label_on l.fn.outline l.fn.labels l.fn.shapes

abbrev pub decreases-loop-label : goal.decreases-loop-label
decreases-loop-label l = length l.rest
