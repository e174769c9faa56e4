use Rattle.std.proofs.Common.{ℕ, ◌≡◌, ◌<◌, ◌≤◌, [], length}
use Rattle.list_facts.specs.Texts.{texts}
use Rattle.yal_reader.proofs.FuelLaws.{GoesOn}
use Rattle.yal_reader.specs.Kept.{call_names}
use Rattle.yal_reader.specs.Lists.{calls_until}
use Rattle.yal_reader.specs.Tokens.{tokens}
use Rattle.yal_reader.proofs.lists.calls_at.Given as goal

abbrev pub invariant-loop-names : goal.invariant-loop-names
invariant-loop-names l =
    ((n : ℕ) → length l.bytes < n → GoesOn (length l.rest) (λ m. calls_until m l.found.items (tokens l.rest)) (calls_until n [] (tokens l.bytes)))
    × (length l.rest ≤ length l.bytes) × (texts l.names.keys ≡ call_names l.found.items)

abbrev pub decreases-loop-names : goal.decreases-loop-names
decreases-loop-names l = length l.rest
