use Rattle.std.proofs.Common.{◌≡◌, ◌≤◌, length}
use Rattle.blif_reader.proofs.RunLaws.{with_front}
use Rattle.blif_reader.specs.Tokens.{tokens}
use Rattle.blif_reader.specs.Words.{pins}
use Rattle.blif_reader.proofs.words.pins_at.Given as goal

abbrev pub invariant-loop-word : goal.invariant-loop-word
invariant-loop-word l = (with_front l.found.items (pins l.size (tokens l.rest)) ≡ pins l.size (tokens l.bytes)) × (length l.rest ≤ length l.bytes)

abbrev pub decreases-loop-word : goal.decreases-loop-word
decreases-loop-word l = length l.rest
