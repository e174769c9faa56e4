use Rattle.std.proofs.Common.{ℕ, ◌<◌, ◌≤◌, length}
use Rattle.yal_reader.proofs.FuelLaws.{GoesOn}
use Rattle.yal_reader.specs.Sections.{no_parts, sections}
use Rattle.yal_reader.specs.Tokens.{tokens}
use Rattle.yal_reader.proofs.sections.sections_at.Given as goal

abbrev pub invariant-loop-parts : goal.invariant-loop-parts
invariant-loop-parts l =
    ((n : ℕ) → length l.bytes < n → GoesOn (length l.rest) (λ m. sections l.numbers m l.kind l.parts (tokens l.rest)) (sections l.numbers n l.kind no_parts (tokens l.bytes)))
    × (length l.rest ≤ length l.bytes)

abbrev pub decreases-loop-parts : goal.decreases-loop-parts
decreases-loop-parts l = length l.rest
