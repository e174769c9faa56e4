use Rattle.std.proofs.Common.{◌≡◌, ◌≤◌, ◌+◌, ◌++◌, List, false, length}
use Rattle.cif_text.specs.declared.command.CifCommand.{CifCommand}
use Rattle.cif_text.specs.Answers.{commands_of}
use Rattle.cif_text.specs.Sound.{AreSound}
use Rattle.cif_text.proofs.ReadingLaws.{with_front}
use Rattle.cif_text.proofs.reading.commands_in.Given as goal

abbrev pub invariant-loop-found : goal.invariant-loop-found
invariant-loop-found l =
    (with_front l.found.items (commands_of l.inside l.rest) ≡ commands_of false l.bytes)
    × ((cs : List CifCommand) → AreSound l.inside cs → AreSound false (l.found.items ++ cs))
    × (length l.found.items + length l.rest ≤ length l.bytes)

abbrev pub decreases-loop-found : goal.decreases-loop-found
decreases-loop-found l = length l.rest
