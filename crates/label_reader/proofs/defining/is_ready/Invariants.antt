use Rattle.std.proofs.Common.{◌≡◌, length}
use Rattle.std.specs.List.{list_all}
use Rattle.label_reader.specs.Defining.{calls_only, is_ready}
use Rattle.label_reader.proofs.defining.is_ready.Given as goal

abbrev pub invariant-loop-command : goal.invariant-loop-command
invariant-loop-command l = list_all (calls_only l.fn.expander.state.symbols) l.rest ≡ is_ready l.fn.commands l.fn.expander l.fn.place

abbrev pub decreases-loop-command : goal.decreases-loop-command
decreases-loop-command l = length l.rest
