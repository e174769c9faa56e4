use Rattle.std.proofs.Common.{◌≡◌, length}
use Rattle.std.specs.List.{list_any}
use Rattle.label_reader.specs.Naming.{is_on}
use Rattle.label_reader.proofs.naming.is_on_any.Given as goal

abbrev pub invariant-loop-shape : goal.invariant-loop-shape
invariant-loop-shape l = list_any (is_on l.fn.outline l.fn.label) l.rest ≡ list_any (is_on l.fn.outline l.fn.label) l.fn.shapes

abbrev pub decreases-loop-shape : goal.decreases-loop-shape
decreases-loop-shape l = length l.rest
