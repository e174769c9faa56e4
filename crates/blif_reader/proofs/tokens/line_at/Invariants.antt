use Rattle.std.proofs.Common.{◌≡◌, ◌≤◌, length}
use Rattle.blif_reader.specs.Tokens.{tokens}
use Rattle.blif_reader.specs.Words.{from_line}
use Rattle.blif_reader.proofs.tokens.line_at.Given as goal

abbrev pub invariant-loop-after : goal.invariant-loop-after
invariant-loop-after l = (from_line (tokens l.rest) ≡ from_line (tokens l.bytes)) × (length l.rest ≤ length l.bytes)

abbrev pub decreases-loop-after : goal.decreases-loop-after
decreases-loop-after l = length l.rest
