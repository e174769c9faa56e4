use Rattle.std.proofs.Common.{◌≡◌, ◌+◌, ◌<◌, ◌^◌, length, false}
use Rattle.std.specs.List.{AllByRecursion}
use Rattle.cif_text.specs.Sound.{IsSound}
use Rattle.label_reader.specs.Labelled.{top_taken}
use Rattle.label_reader.proofs.reading.top_taken.Given as goal

abbrev pub invariant-loop-command : goal.invariant-loop-command
invariant-loop-command l =
    (top_taken l.fn.top l.fn.outline l.fn.labels l.at l.inside l.expander l.rest ≡ top_taken l.fn.top l.fn.outline l.fn.labels 0 false l.fn.expander l.fn.commands)
    × AllByRecursion IsSound l.rest
    × (l.at + length l.rest < 2 ^ 32)

abbrev pub decreases-loop-command : goal.decreases-loop-command
decreases-loop-command l = length l.rest
