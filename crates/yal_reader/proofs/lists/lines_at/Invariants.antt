use Rattle.std.proofs.Common.{ℕ, ◌<◌, ◌≤◌, [], length}
use Rattle.yal_reader.proofs.FuelLaws.{GoesOn}
use Rattle.yal_reader.specs.Lists.{lines_until}
use Rattle.yal_reader.specs.Tokens.{tokens}
use Rattle.yal_reader.proofs.lists.lines_at.Given as goal

abbrev pub invariant-loop-found : goal.invariant-loop-found
invariant-loop-found l =
    ((n : ℕ) → length l.bytes < n → GoesOn (length l.rest) (λ m. lines_until l.numbers l.kind m l.found.items (tokens l.rest)) (lines_until l.numbers l.kind n [] (tokens l.bytes)))
    × (length l.rest ≤ length l.bytes)

abbrev pub decreases-loop-found : goal.decreases-loop-found
decreases-loop-found l = length l.rest
