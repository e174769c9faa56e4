use Rattle.std.proofs.Common.{◌≡◌, ◌≤◌, length}
use Rattle.cif_text.specs.Bytes.{is_between, skip}
use Rattle.cif_text.proofs.bytes.after_between.Given as goal

abbrev pub invariant-loop-byte : goal.invariant-loop-byte
invariant-loop-byte l = (skip is_between l.rest ≡ skip is_between l.bytes) × (length l.rest ≤ length l.bytes)

abbrev pub decreases-loop-byte : goal.decreases-loop-byte
decreases-loop-byte l = length l.rest
