use Rattle.std.proofs.Common.{length}
use Rattle.cif_reader.proofs.ExpandLemmas.{IsUpTo}
use Rattle.cif_reader.proofs.expanding.expand.Given as goal

abbrev pub invariant-loop-command : goal.invariant-loop-command
invariant-loop-command l = IsUpTo l.fn.commands l.standing l.at l.rest

abbrev pub decreases-loop-command : goal.decreases-loop-command
decreases-loop-command l = length l.rest
