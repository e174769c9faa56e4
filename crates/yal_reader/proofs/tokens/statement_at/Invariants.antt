use Rattle.std.proofs.Common.{◌≡◌, ◌≤◌, length}
use Rattle.yal_reader.specs.Tokens.{tokens}
use Rattle.yal_reader.specs.Words.{statement}
use Rattle.yal_reader.proofs.tokens.statement_at.Given as goal

abbrev pub invariant-loop-after : goal.invariant-loop-after
invariant-loop-after l = (statement (tokens l.rest) ≡ statement (tokens l.bytes)) × (length l.rest ≤ length l.bytes)

abbrev pub decreases-loop-after : goal.decreases-loop-after
decreases-loop-after l = length l.rest
