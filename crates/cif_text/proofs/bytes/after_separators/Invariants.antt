use Rattle.std.proofs.Common.{◌≡◌, ◌≤◌, length}
use Rattle.cif_text.specs.Bytes.{is_separator, skip}
use Rattle.cif_text.proofs.bytes.after_separators.Given as goal

abbrev pub invariant-loop-byte : goal.invariant-loop-byte
invariant-loop-byte l = (skip is_separator l.rest ≡ skip is_separator l.bytes) × (length l.rest ≤ length l.bytes)

abbrev pub decreases-loop-byte : goal.decreases-loop-byte
decreases-loop-byte l = length l.rest
