use Rattle.std.proofs.Common.{ℕ, ◌≡◌, ◌<◌, ◌≤◌, [], length}
use Rattle.list_facts.specs.Texts.{texts}
use Rattle.yal_reader.proofs.FuelLaws.{GoesOn}
use Rattle.yal_reader.specs.Kept.{module_names}
use Rattle.yal_reader.specs.Tokens.{tokens}
use Rattle.yal_reader.specs.YalReads.{modules}
use Rattle.yal_reader.proofs.modules.modules_at.Given as goal

abbrev pub invariant-loop-start : goal.invariant-loop-start
invariant-loop-start l =
    ((n : ℕ) → length l.bytes < n → GoesOn (length l.rest) (λ m. modules l.numbers m l.found.items (tokens l.rest)) (modules l.numbers n [] (tokens l.bytes)))
    × (length l.rest ≤ length l.bytes) × (texts l.names.keys ≡ module_names l.found.items)

abbrev pub decreases-loop-start : goal.decreases-loop-start
decreases-loop-start l = length l.rest
