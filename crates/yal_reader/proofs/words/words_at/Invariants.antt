use Rattle.std.proofs.Common.{◌≡◌, ◌≤◌, length}
use Rattle.yal_reader.proofs.RunLaws.{with_front}
use Rattle.yal_reader.specs.Tokens.{tokens}
use Rattle.yal_reader.specs.Words.{words}
use Rattle.yal_reader.proofs.words.words_at.Given as goal

abbrev pub invariant-loop-word : goal.invariant-loop-word
invariant-loop-word l = (with_front l.found.items (words (tokens l.rest)) ≡ words (tokens l.bytes)) × (length l.rest ≤ length l.bytes)

abbrev pub decreases-loop-word : goal.decreases-loop-word
decreases-loop-word l = length l.rest
