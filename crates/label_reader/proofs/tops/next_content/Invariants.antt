use Rattle.std.proofs.Common.{◌≡◌, length}
use Rattle.label_reader.specs.Tops.{main_content}
use Rattle.label_reader.proofs.tops.next_content.Given as goal

abbrev pub invariant-loop-command : goal.invariant-loop-command
invariant-loop-command l = main_content l.inside l.rest ≡ main_content l.fn.inside l.fn.commands

abbrev pub decreases-loop-command : goal.decreases-loop-command
decreases-loop-command l = length l.rest
