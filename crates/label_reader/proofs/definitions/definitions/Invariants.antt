use Rattle.std.proofs.Common.{◌≡◌, ◌+◌, ◌++◌, length}
use Rattle.label_reader.specs.Definitions.{definitions, definitions_from}
use Rattle.label_reader.proofs.definitions.definitions.Given as goal

abbrev pub invariant-loop-command : goal.invariant-loop-command
invariant-loop-command l = (l.found.items ++ definitions_from l.at l.start l.rest ≡ definitions l.fn.commands) × (l.at + length l.rest ≡ length l.fn.commands)

abbrev pub decreases-loop-command : goal.decreases-loop-command
decreases-loop-command l = length l.rest
