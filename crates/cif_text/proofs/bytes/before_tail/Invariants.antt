use Rattle.std.proofs.Common.{◌≡◌, length}
use Rattle.cif_text.specs.Bytes.{without_tail}
use Rattle.cif_text.proofs.bytes.before_tail.Given as goal

abbrev pub invariant-loop-byte : goal.invariant-loop-byte
invariant-loop-byte l = without_tail l.front ≡ without_tail l.text

abbrev pub decreases-loop-byte : goal.decreases-loop-byte
decreases-loop-byte l = length l.front
