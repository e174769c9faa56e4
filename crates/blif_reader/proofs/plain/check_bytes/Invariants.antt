use Rattle.std.proofs.Common.{◌≡◌, length}
use Rattle.blif_reader.specs.Text.{fitting}
use Rattle.blif_reader.proofs.plain.check_bytes.Given as goal

abbrev pub invariant-loop-byte : goal.invariant-loop-byte
invariant-loop-byte l = fitting l.rest ≡ fitting l.bytes

abbrev pub decreases-loop-byte : goal.decreases-loop-byte
decreases-loop-byte l = length l.rest
