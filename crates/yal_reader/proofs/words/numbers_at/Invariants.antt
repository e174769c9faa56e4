use Rattle.std.proofs.Common.{◌≡◌, ◌≤◌, length}
use Rattle.yal_reader.proofs.RunLaws.{with_front}
use Rattle.yal_reader.specs.Tokens.{tokens}
use Rattle.yal_reader.specs.Numbers.{number_run}
use Rattle.yal_reader.proofs.words.numbers_at.Given as goal

abbrev pub invariant-loop-word : goal.invariant-loop-word
invariant-loop-word l = (with_front l.found.items (number_run l.numbers (tokens l.rest)) ≡ number_run l.numbers (tokens l.bytes)) × (length l.rest ≤ length l.bytes)

abbrev pub decreases-loop-word : goal.decreases-loop-word
decreases-loop-word l = length l.rest
