use Rattle.std.proofs.Common.{◌≡◌, ◌*◌, ◌-◌, ◌≤◌, length, IfOk}
use Rattle.cif_text.specs.Numbers.{greatest}
use Rattle.cif_text.specs.Transforms.{IsWithin, moves_of}
use Rattle.cif_text.proofs.Moves.{moves_from}
use Rattle.cif_text.proofs.calls.moves_at.Given as goal

abbrev pub invariant-loop-letter : goal.invariant-loop-letter
invariant-loop-letter l =
    (moves_from l.whole l.rest ≡ moves_of l.bytes) × IfOk l.whole (IsWithin (greatest * (length l.bytes - length l.rest))) × (length l.rest ≤ length l.bytes)

abbrev pub decreases-loop-letter : goal.decreases-loop-letter
decreases-loop-letter l = length l.rest
