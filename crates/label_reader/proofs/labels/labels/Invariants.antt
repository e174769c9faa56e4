use Rattle.std.proofs.Common.{◌≡◌, ◌+◌, ◌++◌, length}
use Rattle.label_reader.specs.Labelled.{labels}
use Rattle.label_reader.specs.Naming.{labels_from}
use Rattle.label_reader.proofs.labels.labels.Given as goal

abbrev pub invariant-loop-command : goal.invariant-loop-command
invariant-loop-command l =
    (l.found.items ++ labels_from l.fn.top l.fn.scale.a l.fn.scale.b l.fn.outline l.at l.inside l.layer l.rest ≡ labels l.fn.top (l.fn.scale.a, l.fn.scale.b) l.fn.outline l.fn.commands)
    × (l.at + length l.rest ≡ length l.fn.commands)

abbrev pub decreases-loop-command : goal.decreases-loop-command
decreases-loop-command l = length l.rest
