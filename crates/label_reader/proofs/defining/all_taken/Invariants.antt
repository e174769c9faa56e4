use Rattle.std.proofs.Common.{◌≡◌, ◌+◌, ◌<◌, ◌^◌, length}
use Rattle.std.specs.List.{AllByRecursion}
use Rattle.std.specs.Prelude.{is_some}
use Rattle.cif_text.specs.Sound.{IsSound}
use Rattle.label_reader.specs.Defining.{all_taken}
use Rattle.label_reader.proofs.defining.all_taken.Given as goal

abbrev pub invariant-loop-command : goal.invariant-loop-command
invariant-loop-command l =
    (all_taken l.at l.expander l.rest ≡ all_taken l.fn.first l.fn.expander l.fn.commands)
    × (is_some l.expander.state.inside ≡ is_some l.fn.expander.state.inside)
    × AllByRecursion IsSound l.rest
    × (l.at + length l.rest < 2 ^ 32)

abbrev pub decreases-loop-command : goal.decreases-loop-command
decreases-loop-command l = length l.rest
