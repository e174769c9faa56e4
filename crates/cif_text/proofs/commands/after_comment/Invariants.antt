use Rattle.std.proofs.Common.{◌≡◌, ◌≤◌, ◌+◌, length}
use Rattle.cif_text.specs.Commands.{after_comment}
use Rattle.cif_text.proofs.commands.after_comment.Given as goal

abbrev pub invariant-loop-byte : goal.invariant-loop-byte
invariant-loop-byte l = (after_comment l.inner l.rest ≡ after_comment 0 l.bytes) × (l.inner + length l.rest ≤ length l.bytes)

abbrev pub decreases-loop-byte : goal.decreases-loop-byte
decreases-loop-byte l = length l.rest
