use Rattle.std.proofs.Common.{◌≡◌, ◌≤◌, length, true}
use Rattle.yal_reader.specs.Tokens.{tokens}
use Rattle.yal_reader.specs.Words.{after_stop}
use Rattle.yal_reader.proofs.words.after_stop_at.Given as goal

abbrev pub invariant-loop-word : goal.invariant-loop-word
invariant-loop-word l = (after_stop l.keyword true (tokens l.rest) ≡ after_stop l.keyword true (tokens l.bytes)) × (length l.rest ≤ length l.bytes)

abbrev pub decreases-loop-word : goal.decreases-loop-word
decreases-loop-word l = length l.rest
