use Rattle.std.proofs.Common.{◌≡◌, ◌≤◌, length}
use Rattle.yal_reader.specs.Tokens.{tokens}
use Rattle.yal_reader.specs.Words.{past_words}
use Rattle.yal_reader.proofs.words.past_words_at.Given as goal

abbrev pub invariant-loop-after : goal.invariant-loop-after
invariant-loop-after l = (past_words (tokens l.rest) ≡ past_words (tokens l.bytes)) × (length l.rest ≤ length l.bytes)

abbrev pub decreases-loop-after : goal.decreases-loop-after
decreases-loop-after l = length l.rest
