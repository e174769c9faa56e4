use Rattle.std.proofs.Common.{ℕ, ◌<◌, ◌≤◌, length}
use Rattle.blif_reader.proofs.RunLaws.{GoesOn}
use Rattle.blif_reader.specs.BlifReads.{lines}
use Rattle.blif_reader.specs.Parts.{no_parts}
use Rattle.blif_reader.specs.Tokens.{tokens}
use Rattle.blif_reader.proofs.models.lines_at.Given as goal

abbrev pub invariant-loop-found : goal.invariant-loop-found
invariant-loop-found l =
    ((n : ℕ) → length l.bytes < n → GoesOn (length l.rest) (λ m. lines l.size m l.found (tokens l.rest)) (lines l.size n no_parts (tokens l.bytes)))
    × (length l.rest ≤ length l.bytes)

abbrev pub decreases-loop-found : goal.decreases-loop-found
decreases-loop-found l = length l.rest
