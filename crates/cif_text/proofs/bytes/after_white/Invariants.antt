use Rattle.std.proofs.Common.{◌≡◌, length}
use Rattle.cif_text.specs.Bytes.{is_white, skip}
use Rattle.cif_text.proofs.bytes.after_white.Given as goal

abbrev pub invariant-loop-byte : goal.invariant-loop-byte
invariant-loop-byte l = skip is_white l.rest ≡ skip is_white l.text

abbrev pub decreases-loop-byte : goal.decreases-loop-byte
decreases-loop-byte l = length l.rest
